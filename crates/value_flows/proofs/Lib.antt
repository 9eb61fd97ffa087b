-- Rows says that a row of values is a list.
pub mod Rows
