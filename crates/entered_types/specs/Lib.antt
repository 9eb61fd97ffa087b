-- Entered is the contract: which types enter a scope's table.
pub mod Entered
