-- Kind 5: what the test of an integer partition says, that the list is the listing, its first and last, the steps and the ranks in it.
pub mod Facts
pub mod Theorem
pub mod Laws
pub mod Places
pub mod Neighbours
pub mod Counts
pub mod Ranks
pub mod Testing
pub mod Floors
pub mod Small
pub mod Sums
