pub mod Standing
pub mod Counting
pub mod Ordered
pub mod Steps
pub mod Verdicts
pub mod Whole
