-- The contract: the grammar (Grammar), the two machines' definitions of a step with the nesting of its token (ValueSpecs for
-- declarations, Simples for simple statements), what a step of the code answers (SpecStates, SimpleStates), and what may follow in
-- each state (Laws). Inside: what of their states lies in memory (Spots, Contexts).
pub mod Grammar
pub mod ValueSpecs
pub mod Simples
pub mod Spots
pub mod SpecStates
pub mod Contexts
pub mod SimpleStates
pub mod Laws
