pub mod Growth
pub mod InFormSimple
mod Items
mod LeastSimple
mod Names
pub mod Sequences
pub mod SettledSimple
pub mod SettledValues
pub mod SettledVariables
mod Strings
