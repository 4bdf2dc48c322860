-- Where a word stands in the listing by its letters, and the digits of a permutation's rank.
pub mod Counts
pub mod Ranks
pub mod Fronts
pub mod Raising
pub mod FactorialDigits
