-- Ranks of derangements: what their private functions say to each other. No public contract cites this folder.
pub mod Inner
