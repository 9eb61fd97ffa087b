-- The contract: `Frame`, a frame as data, `Accesses`, where words are, and `Temps`, that the slots of a frame suffice for expressions and
-- places. Inside: `Parts`.
pub mod Parts
pub mod Temps
pub mod Accesses
pub mod Frame
