-- The contract: `code_of` in `Code`, the tables of a program's code. All else there are its parts, form by form, which those
-- that emit code and the theorem cite: a `_code` gives instructions, a `_size` their number.
pub mod Code
