pub mod Gaps
pub mod Words
pub mod Numbers
pub mod Longest
pub mod Strings
pub mod Pieces
pub mod Standing
