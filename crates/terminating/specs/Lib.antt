-- Terminating is the contract: which lists of statements end in a terminating one.
pub mod Terminating
