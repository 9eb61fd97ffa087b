pub mod Answer
pub mod Command
pub mod Programs
pub mod Refusal
pub mod Rows
pub mod Words
pub mod Contract
