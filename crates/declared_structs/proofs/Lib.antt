pub mod Lists
pub mod Numbers
pub mod Refusals
pub mod Arrays
pub mod Open
