-- The laws of the counts, of sums and of tables.
pub mod Binomials
pub mod Catalans
pub mod Derangements
pub mod Factorials
pub mod Laws
pub mod Multinomials
pub mod PartitionLaws
pub mod Positive
pub mod Stirlings
pub mod Tables
pub mod TriangleIndex
pub mod Triangles
pub mod Weighted
pub mod WeightedTests
