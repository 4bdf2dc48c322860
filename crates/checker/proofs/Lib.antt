-- What a check rests on, and the theorems about checks.
pub mod Entries
pub mod FirstWrong
pub mod Comparing
pub mod Answering
pub mod CheckLaws
