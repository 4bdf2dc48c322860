-- How far the small Stirling numbers are stored.
pub mod Inner
