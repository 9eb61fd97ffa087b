-- Structs (types and structs, and which struct holds or mentions which), Words (their words), Faults (what is wrong with them), and
-- Verdicts (which are refused, and what is told) are the contract. Kept and Filling are inside.
pub mod Structs
pub mod Words
pub mod Faults
pub mod Verdicts
pub mod Kept
pub mod Filling
