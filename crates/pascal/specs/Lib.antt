-- What the functions that are lent the table, or a part of a row, say to each other.
pub mod Inner
