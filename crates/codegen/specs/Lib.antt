-- Inside: what is emitted is `code_of` of `program_code`, and no contract of the crate cites these. `Temps` says that the slots
-- of a frame suffice for statements, `Frame` gives the code of statements by their parts.
pub mod Temps
pub mod Frame
