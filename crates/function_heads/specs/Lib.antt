-- HeadTypes (the types of parameters and results), PackageBlock (what a package declares), Heads and HeadFaults are the contract: what the
-- head of a function gives, what a package may declare, and which rules fail in these. Assembled is inside: what the checker puts together
-- of the parts of a function.
pub mod HeadTypes
pub mod PackageBlock
pub mod Heads
pub mod HeadFaults
pub mod Assembled
