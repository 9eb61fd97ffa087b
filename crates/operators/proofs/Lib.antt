pub mod Shifts
pub mod Held
pub mod DecidedOperators
