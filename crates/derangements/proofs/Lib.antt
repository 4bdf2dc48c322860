-- Derangements: as functions, by the key and what is left; the listing, its ends and its neighbours.
pub mod Images
pub mod Facts
pub mod Theorem
pub mod Laws
pub mod Places
pub mod FirstLast
pub mod InPlace
pub mod Gaps
pub mod Neighbours
