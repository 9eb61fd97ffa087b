-- The contract: `layouts`, and `first_too_large`, by which a program is refused, with `IsTooLarge`;
-- `starts`, where each site of a frame starts. The rest are their parts.
pub mod Layout
