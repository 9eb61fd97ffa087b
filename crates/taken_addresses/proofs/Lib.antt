-- Chained joins lists of sites, and Marked says how marks add up.
pub mod Chained
pub mod Marked
