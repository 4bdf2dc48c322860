-- What a reader must believe of the program's text: everything that is printed, in the columns of `columns`, for the slips of `grammar`; and for the
-- theorems about what is printed since numbers start at 1, what was printed earlier.
pub mod Sizes
pub mod Text
pub mod Rendering
pub mod Earlier
