-- Forms (the structs of a program by the types of their fields), Faults (which rules fail in their declarations) and Tables (the table of
-- their types) are the contract. Passing is inside: what lies in memory as what they speak of.
pub mod Forms
pub mod Faults
pub mod Tables
pub mod Passing
