-- The laws of the band, what a loop over one row keeps, the limits, and what the callers need.
pub mod Laws
pub mod Limits
pub mod Rows
pub mod Walk
