-- What a listing is, where things stand in it, and what calls do to it: the words that all kinds of family share.
pub mod Bytes
pub mod Orders
pub mod Listings
pub mod Choices
pub mod Joined
pub mod Kept
pub mod Rows
pub mod Places
pub mod Calls
pub mod Marker
pub mod Runs
pub mod Steps
pub mod Directions
