-- The contract: the grammar (Grammar), the machine's definition of a step with the nesting of its token (Outer, Bodies), what a step
-- of the code answers (BodyStates), and what may follow in each state (Laws). Inside: what of its states lies in memory (Outers,
-- BlocksInMemory).
pub mod Grammar
pub mod Outer
pub mod Bodies
pub mod Outers
pub mod BlocksInMemory
pub mod BodyStates
pub mod Laws
