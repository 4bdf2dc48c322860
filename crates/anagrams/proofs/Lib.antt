-- That the listing of anagrams is all of them in order, how many there are, and the same of permutations.
pub mod Facts
pub mod Theorem
pub mod Laws
pub mod Places
pub mod Neighbours
pub mod Testing
pub mod Swaps
