pub mod Positions
pub mod View
pub mod Words
pub mod Tables
pub mod Trees
pub mod Formed
pub mod Memory
