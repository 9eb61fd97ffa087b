-- Checked is the contract: the program of a tree, and the fault that is reported; Functions says what a package has and becomes, and
-- FunctionFaults which rules fail in it; Statements and StatementFaults the same of a statement, Ranges and RangeFaults of the header of a
-- `range`. Passing and StatementPassing are inside: what lies in memory as what the specifications speak of.
pub mod Checked
pub mod FunctionFaults
pub mod Functions
pub mod Passing
pub mod RangeFaults
pub mod Ranges
pub mod StatementPassing
pub mod StatementFaults
pub mod Statements
