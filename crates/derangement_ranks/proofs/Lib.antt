-- Ranks of derangements: where one stands, by its key and where the derangement left stands.
pub mod Ranks
