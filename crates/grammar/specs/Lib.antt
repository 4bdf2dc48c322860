-- What a reader must believe of the slip: its grammar, and how long its lines are. Reading serves the contracts of private functions and of `parse` only.
pub mod Sizes
pub mod Grammar
pub mod Inner
