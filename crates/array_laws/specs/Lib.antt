pub mod Occurs
pub mod Laws
