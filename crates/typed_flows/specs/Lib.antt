-- Flows is the contract, with the values of expressions (Values). Pointers says which types have pointers, and Known which are known
-- to have some.
pub mod Pointers
pub mod Known
pub mod Values
pub mod Flows
