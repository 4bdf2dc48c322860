-- What a reader must believe of a walk: what it keeps, where it starts, and what a step and a list of steps answer and leave.
pub mod Walks
