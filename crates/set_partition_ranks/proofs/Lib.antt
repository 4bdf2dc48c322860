-- Ranks of set partitions, in either edition: where a partition stands, by the key of its last model and where the others stand.
pub mod Ranks
pub mod KeyReading
