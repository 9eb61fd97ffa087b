pub mod Early
pub mod Held
pub mod InForm
pub mod Nodes
pub mod Settled
pub mod Places
pub mod LiteralNodes
