pub mod Parts
pub mod Reading
pub mod Took
pub mod Written
pub mod FirstItem
pub mod ItemKnown
pub mod Turns
