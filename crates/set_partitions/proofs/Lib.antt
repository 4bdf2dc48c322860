-- Kind 4: what the definitions mean, that the list of the set partitions is their listing, how many there are, and what the functions do by it.
pub mod Facts
pub mod Theorem
pub mod Laws
pub mod Places
pub mod Neighbours
pub mod Testing
pub mod Searching
pub mod KeyOrder
pub mod Meaning
