-- Syntax is the contract: programs of flows as abstract syntax. View is how the data is seen so.
pub mod Syntax
pub mod View
