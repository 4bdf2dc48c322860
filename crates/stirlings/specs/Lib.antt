-- A band of the triangle of Stirling numbers, and which of them are below 2^64.
pub mod Inner
