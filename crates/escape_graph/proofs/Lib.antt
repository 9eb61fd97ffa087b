-- Weights says that no edge has a weight below -1.
pub mod Weights
mod Chained
mod Pairs
