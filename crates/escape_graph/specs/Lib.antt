-- Edges is the contract: the edges of a batch, and of a program, under tags. Targets is where values go, and Locations the locations of a
-- graph.
pub mod Targets
pub mod Edges
pub mod Locations
