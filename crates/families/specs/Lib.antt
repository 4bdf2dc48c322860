-- What a reader must believe of the calls: the table of families, their objects, orders and listings, the questions, and the marker.
pub mod Table
pub mod Families
pub mod Questions
pub mod Calls
pub mod Marker
pub mod Answers
pub mod Codes
pub mod Cases
pub mod Inner
