-- Graph (graphs, and what leads where) and Components (the components of a graph, and nodes on cycles) are the contract. Search
-- and Cycles are inside.
pub mod Graph
pub mod Components
pub mod Search
pub mod Cycles
