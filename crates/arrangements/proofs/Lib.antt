-- The laws that carry an answer of `families` to the numbers of an exported call.
pub mod Telling
pub mod Refusals
pub mod Checks
