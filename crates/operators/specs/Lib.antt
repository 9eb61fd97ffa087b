-- Operators is the contract: what operators give operands; Faults and ConstantFaults are the rules that fail, Folding is exact arithmetic on
-- constants, and Operands what an operand is. Passing is inside: operands in memory as those of the specifications.
pub mod Folding
pub mod Operands
pub mod Operators
pub mod ConstantFaults
pub mod Faults
pub mod Passing
