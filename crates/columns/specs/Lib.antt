-- Numbers and words in columns of text: how they are written, and what a field reads.
pub mod Columns
pub mod Fields
pub mod Inner
