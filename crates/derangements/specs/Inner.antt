-- What private functions, and functions of crates below the calls, say to each other. No contract of a call that users reach cites it.
pub mod Keys
pub mod Moves
