-- Kind 7: what a derangement is, how one is made from a smaller one, which of two comes first, and the listing of them all.
pub mod Cycles
pub mod Objects
pub mod Listing
pub mod Inner
