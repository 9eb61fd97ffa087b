pub mod BodiesFollowing
pub mod BodiesEnds
pub mod BodiesSimples
pub mod BodiesHeaders
pub mod BodiesFor
pub mod BodiesElse
pub mod BodiesStatements
pub mod BodiesValues
pub mod BodiesBegins
pub mod BodiesViable
pub mod BodiesQuotient
pub mod NameSpans
pub mod Failures
pub mod Chains
pub mod BodyBegins
pub mod Ranges
mod Foretelling
