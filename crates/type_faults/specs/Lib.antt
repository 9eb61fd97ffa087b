-- Least is the contract. Faults and Given are words in which the crates above say their rules: the fault of one rule, and what is given
-- where several parts give something.
pub mod Least
pub mod Given
pub mod Faults
