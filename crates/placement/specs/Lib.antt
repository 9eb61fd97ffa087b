-- The contract: `placement_of`, what a placement says. The placements themselves are defined in the crate `frames`.
pub mod Told
