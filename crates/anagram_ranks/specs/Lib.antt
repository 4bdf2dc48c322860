-- What a permutation becomes where a letter is put in front of it.
pub mod Inner
