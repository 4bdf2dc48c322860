-- The test of the stored numbers, and the ends of the rows.
pub mod Ends
pub mod Tested
