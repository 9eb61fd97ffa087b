-- Flow is the contract: what flows to a root, the least numbers, and paths. Weights is what graphs keep. The others are inside:
-- what a walk notes (Found), when two locations are one (Locations), and why the walk ends (Heights).
pub mod Flow
pub mod Found
pub mod Locations
pub mod Heights
pub mod Weights
