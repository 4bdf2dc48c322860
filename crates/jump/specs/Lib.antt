-- What a reader must believe of a jump: where it leads, what it answers and leaves.
pub mod Jumps
pub mod Inner
