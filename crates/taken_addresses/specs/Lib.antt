-- Takes is the contract: which sites' variables a body takes the address of, and which sites are marked.
pub mod Takes
