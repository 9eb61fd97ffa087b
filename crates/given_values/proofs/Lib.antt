pub mod Items
pub mod Places
pub mod DecidedValues
pub mod DecidedCalls
pub mod HeldCalls
pub mod NoSlices
pub mod ValuesFit
