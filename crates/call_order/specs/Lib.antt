-- Order is the contract, with the calls of a function (Calls). Lists and Batches are inside: the calls that are collected, and
-- what becomes of the components of their graph.
pub mod Calls
pub mod Order
pub mod Lists
pub mod Batches
