-- Kind 1: what a subset is, which of two comes first, and the listing of them all.
pub mod Objects
pub mod Listing
pub mod Inner
