pub mod Steps
pub mod Keys
pub mod Known
pub mod DecidedParts
pub mod HeldParts
pub mod PartsFit
pub mod ElementValues
