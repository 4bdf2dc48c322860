-- The laws of lines, and of the slip by its first line.
pub mod LineLaws
pub mod SlipLaws
