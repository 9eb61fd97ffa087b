-- Values is the contract: what the declarations give constants and variables; Needs says what needs what, ValueFaults which rules fail,
-- Accepted what the declarations are where none does, and Laws what the values are without the looks that find them. Passing is inside: what
-- lies in memory as what the specifications speak of.
pub mod Values
pub mod Needs
pub mod ValueFaults
pub mod Accepted
pub mod Passing
pub mod Laws
