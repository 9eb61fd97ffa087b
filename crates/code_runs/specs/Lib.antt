-- The contract: `ReadBy` and `Ran`, what a run read and how it answered. Inside: `answer_to`, and how the package variables begin.
pub mod Runs
