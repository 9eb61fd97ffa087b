mod Fields
pub mod Growth
pub mod InFormEntries
pub mod Items
pub mod SettledEntries
mod Sites
pub mod Visible
