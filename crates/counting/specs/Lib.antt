-- What an answer about a count says; the counts themselves stand in `numbers`.
pub mod Answers
