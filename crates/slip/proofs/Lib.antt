-- The laws of printed lines, how long a text is, the specification's worked output, and what was printed earlier.
pub mod Lines
pub mod Sizes
pub mod Start
pub mod Worked
