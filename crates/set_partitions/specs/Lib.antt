-- Kind 4: what a set partition is, which of two comes first by either edition, and the listing of them all.
pub mod KeyOrder
pub mod Objects
pub mod Meaning
pub mod Listing
pub mod Inner
