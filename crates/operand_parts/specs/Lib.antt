-- Parts (the parts of operands: fields and elements), ArrayTypes (lengths of array types), Literals (the form of composite literals) and
-- LiteralValues (their values) are the contract; PartFaults and LiteralFaults are the rules that fail in them. Passing is inside: what lies
-- in memory as abstract syntax.
pub mod Parts
pub mod PartFaults
pub mod ArrayTypes
pub mod Literals
pub mod LiteralFaults
pub mod LiteralValues
pub mod Passing
