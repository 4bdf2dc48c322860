-- The window before a place of a row, and the table against the addition rule.
pub mod Tested
pub mod Windows
