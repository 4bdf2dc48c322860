-- What a reader must believe of a replay: which numbers stand for which calls and answers, and what its record is.
pub mod Codes
pub mod Record
