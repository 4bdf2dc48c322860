-- What private functions say to each other. No contract of a call that users reach cites it.
pub mod Searches
