-- The contract: the tree as abstract syntax with what the tree in memory is as such (Expressions, Statements, Declarations), the
-- first byte of an expression (FirstBytes), heights and the limit of a nesting (Heights), and where names and strings stand
-- (Spans). Inside: lists one after the other (Lists), which the parsers' own definitions use, and in the others the parts of lists
-- in memory (`arguments_of`, `element_row`, `row_of`).
pub mod Expressions
pub mod Statements
pub mod Declarations
pub mod FirstBytes
pub mod Heights
pub mod Spans
pub mod Lists
