-- Given is the contract: what expressions give, alone and side by side, and what calls of them give; GivenFaults are the rules that fail of that.
-- Passing is inside: what lies in memory as what the specifications speak of.
pub mod Given
pub mod GivenFaults
pub mod Passing
