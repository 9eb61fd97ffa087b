-- All of it is the contract.
pub mod Limits
