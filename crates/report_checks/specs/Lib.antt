-- Texts (the text of each line), Lines, Verdict (which lines pass, and the first fault), Faults and Report (what a report that passes
-- is) are the contract. Inside are Cuts and Reading, the line of a text as a function, which is shown to be the one that
-- Texts has, and Gaps, by which the least site without a line is found.
pub mod Cuts
pub mod Reading
pub mod Texts
pub mod Lines
pub mod Faults
pub mod Verdict
pub mod Report
pub mod Gaps
