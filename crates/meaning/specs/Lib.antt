pub mod Trace
pub mod Store
pub mod Operators
pub mod Meaning
pub mod Output
pub mod Journal
