-- Lines is the contract of the report: its lines, and its text. Explained is that of the whole analysis, Ready says what it asks of
-- a program and its names, and Passing has the statements of the laws.
pub mod Lines
pub mod Passing
pub mod Ready
pub mod Explained
