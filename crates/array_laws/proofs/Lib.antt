pub mod Lengths
pub mod Growth
pub mod Walks
pub mod Known
pub mod Standing
