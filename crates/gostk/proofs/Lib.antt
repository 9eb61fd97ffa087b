pub mod Early
pub mod Endings
pub mod Items
pub mod Lines
pub mod Numbers
pub mod Runs
pub mod Table
pub mod Contract
