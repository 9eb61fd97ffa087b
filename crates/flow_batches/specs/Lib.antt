-- Batches and Standing are the contract. The others are inside: the calls that the batches are found by (Called), and the tests of a
-- program's form (Form) and of what its whole graph asks (Tested).
pub mod Batches
pub mod Standing
pub mod Called
pub mod Form
pub mod Tested
