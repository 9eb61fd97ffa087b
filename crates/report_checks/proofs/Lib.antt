pub mod Choices
pub mod Cutting
pub mod Decimals
pub mod Exact
pub mod Judged
pub mod Passed
pub mod Splitting
pub mod Gapped
