-- The laws behind the coefficients.
pub mod Tested
pub mod Columns
