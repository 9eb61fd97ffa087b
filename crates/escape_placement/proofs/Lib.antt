-- Told says how one home after the other is told. Good has what the analysis asks of values and acts, which Expressions and Statements
-- say of those that a program in form has.
mod Told
mod Good
mod Expressions
mod Statements
mod Functions
mod Called
mod Ordered
mod Exact
