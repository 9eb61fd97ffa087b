-- Signatures is the contract: the types of parameters and results, and the names of a package; Structs says how the fields of a struct are
-- noted, Entries what a list of names with types declares, EntryFaults and SignatureFaults which rules fail. Failing is inside: a rule that
-- fails where a test says so.
pub mod Entries
pub mod EntryFaults
pub mod Failing
pub mod SignatureFaults
pub mod Signatures
pub mod Structs
