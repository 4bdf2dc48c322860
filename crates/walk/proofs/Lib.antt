-- What the functions of a walk rest on, and the theorems about walks.
pub mod Asked
pub mod Told
pub mod Arrays
pub mod Runs
pub mod OneList
pub mod AnyWalk
pub mod KnownNumber
