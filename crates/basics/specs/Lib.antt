-- The limits of the table; ranges of numbers and sums: what the counts and the listings are both written with.
pub mod Limits
pub mod Sums
