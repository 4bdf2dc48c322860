-- Kind 6: what a Dyck word is, which of two comes first, and the listing of them all.
pub mod Objects
pub mod Trees
pub mod Listing
pub mod Inner
