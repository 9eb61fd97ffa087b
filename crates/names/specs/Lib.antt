-- Scope is the contract: what names stand for, and how a scope changes; Universe has the names that the language declares, Types the types
-- that expressions are, Faults the rules that fail in them, Fields the parts of structs and arrays, and Naming the
-- bytes of names. Blocks is inside: the blocks of a scope.
pub mod Blocks
pub mod Universe
pub mod Scope
pub mod Naming
pub mod Types
pub mod Fields
pub mod Faults
