-- The laws of ranges, sums, lists taken apart and stored into, and tests: each has its one home here, below the counts and the listings.
pub mod Bools
pub mod Lists
pub mod Products
pub mod Ranges
pub mod Totals
