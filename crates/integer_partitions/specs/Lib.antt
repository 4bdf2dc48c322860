-- Kind 5: what an integer partition is, which of two comes first, and the listing of them all.
pub mod Objects
pub mod Listing
pub mod Inner
