-- The laws of columns and fields, and of writes into a buffer.
pub mod ColumnLaws
pub mod FieldLaws
pub mod Writes
