-- What private functions say to each other. No contract of a call that users reach cites it.
pub mod Bounds
pub mod Counts
pub mod Kinds
pub mod Admissions
