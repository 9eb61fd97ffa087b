-- The contract: the grammar (Terminals, Grammar), the machine's definition of a step with the nesting of its token (Frames,
-- Machine), what a step of the code answers (States), and what may follow in each state (Laws). Inside: what is open as it lies in
-- memory (Containers, Stacks), which only the invariants of the code's own state speak of.
pub mod Terminals
pub mod Frames
pub mod Grammar
pub mod Machine
pub mod Containers
pub mod Stacks
pub mod States
pub mod Laws
