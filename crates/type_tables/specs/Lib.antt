-- Told (the table of a program) and Types (what it has for each field) are the contract. Fits is inside.
pub mod Told
pub mod Types
pub mod Fits
