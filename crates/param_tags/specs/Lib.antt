-- Whole is the contract: the least heap set with its tags; Order what is asked of a program and its batches, and Heap the
-- rules. Paths has the paths that tell why, and Monotone what the laws say. The others are inside: the walks of a batch and the
-- addresses that its locations may hold (Walks), the rounds in which sites join the heap (Rounds), and what one batch's
-- solution is (Solved).
pub mod Order
pub mod Heap
pub mod Whole
pub mod Paths
pub mod Monotone
pub mod Walks
pub mod Rounds
pub mod Solved
