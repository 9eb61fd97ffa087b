-- The contract: `CodeSimulates`, by `Simulated`, over `limits`, `same_event`, `same_end` and `target`. The rest are parts of
-- these.
pub mod Correct
