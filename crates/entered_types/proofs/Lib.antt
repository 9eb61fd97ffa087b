mod Elements
pub mod Keeping
