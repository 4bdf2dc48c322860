-- What a reader must believe of a check: what it asks, and what each of its answers says.
pub mod Checking
pub mod Inner
