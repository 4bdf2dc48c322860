-- What a reader of the counts must believe: the counts as unbounded numbers.
pub mod Numbers
