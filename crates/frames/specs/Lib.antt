-- Placement says which variables live on the heap, Frames what a call's frame holds.
pub mod Placement
pub mod Frames
