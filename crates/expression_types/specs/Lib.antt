-- Typing is the contract: what an expression gives; Faults are the rules that fail in it. Passing is inside: what lies in memory as what the
-- specifications speak of.
pub mod Typing
pub mod Faults
pub mod Passing
