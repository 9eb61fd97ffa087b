mod Answering
mod Declared
mod Growth
mod OneHeads
mod HeadsHold
mod NoSlices
mod Alike
mod Constants
mod Settling
mod BasicTypes
mod InFormGlobals
mod InFormProgram
mod Lines
mod MemberLists
mod Package
mod SettledFunctions
mod SettledPackage
mod Passed
mod Sites
mod Types
mod Visible
mod Walk
pub mod StatementGrowth
mod InFormHeads
mod InFormRanges
pub mod InFormStatements
pub mod Inside
mod StatementLines
mod Sequences
mod SettledHeads
mod SettledRanges
pub mod SettledStatements
mod StatementSites
pub mod Terminating
