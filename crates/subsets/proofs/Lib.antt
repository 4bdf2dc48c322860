-- The laws of subsets: what the test says, that the listing is the listing of them, where they stand in it, and what a step and a rank come to in lists.
pub mod Facts
pub mod Theorem
pub mod Laws
pub mod Places
pub mod Neighbours
pub mod Ranks
pub mod Testing
pub mod Dictionary
