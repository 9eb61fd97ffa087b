mod Fields
mod Numbers
pub mod Open
