-- Rows says that rows of values are lists, Made what values are made of, Chained joins lists, and Tables says which types of a table
-- have pointers.
pub mod Rows
pub mod Made
pub mod Chained
pub mod Tables
