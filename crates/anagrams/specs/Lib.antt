-- Kinds 2 and 3: what an anagram and a permutation are, which of two comes first, and the listing of them all.
pub mod Objects
pub mod Listing
pub mod Permutations
pub mod Inner
