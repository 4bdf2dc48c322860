-- The laws behind the counts of partitions.
pub mod Columns
pub mod Tested
pub mod Rules
