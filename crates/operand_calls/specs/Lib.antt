-- Calls is the contract: which expressions have a call, where the first one stands, and the rule that an operand has none.
pub mod Calls
