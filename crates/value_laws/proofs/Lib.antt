pub mod Lists
pub mod Parts
pub mod Zeros
pub mod Equal
pub mod Table
pub mod Ascending
