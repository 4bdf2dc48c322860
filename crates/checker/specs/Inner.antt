-- What private functions say to each other. No contract that users reach cites it.
pub mod Differences
