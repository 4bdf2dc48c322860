-- Kind 6: its listing is the listing of Dyck words.
pub mod Facts
pub mod Theorem
pub mod Laws
pub mod Places
pub mod Neighbours
pub mod Testing
pub mod TreeOrder
pub mod RowTable
pub mod Lent
pub mod Steps
pub mod Dictionary
