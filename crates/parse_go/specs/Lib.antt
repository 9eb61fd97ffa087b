-- The contract: the grammar (Grammar), what a fault is and that there is no other (Faults, Laws), and a fault's number and position
-- (FaultNumbers). Inside: the machine with those of struct types and of parameters (Machine, TypeSpecs, Parameters), and what of
-- their states lies in memory (TypeSpots, TypeStates, ParameterStates, Signatures, States).
pub mod Grammar
pub mod TypeSpecs
pub mod TypeSpots
pub mod TypeStates
pub mod Parameters
pub mod ParameterStates
pub mod Machine
pub mod Signatures
pub mod States
pub mod Faults
pub mod FaultNumbers
pub mod Laws
