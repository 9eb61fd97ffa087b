pub mod Leasts
pub mod Options
pub mod Decided
pub mod Lists
