-- Ranks of Dyck words: where a word stands, by where its inside and its rest stand.
pub mod Ranks
pub mod Cutting
