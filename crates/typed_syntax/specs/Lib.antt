-- Types, values and typed programs as abstract syntax. The meaning of a program, its code and the theorem stand on Syntax, which
-- stands on Types, Value and Paths; Words says which words of the machine a value has. Form is the premise of what is proved.
pub mod Positions
pub mod Types
pub mod Value
pub mod Paths
pub mod Words
pub mod Syntax
pub mod Form
