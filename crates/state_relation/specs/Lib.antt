-- The vocabulary: `Views` of a trace, the types of words (`Leaves`), the `Relation` of a store and a world, and what is
-- `Alike` on both sides.
pub mod Leaves
pub mod Views
pub mod Relation
pub mod Alike
