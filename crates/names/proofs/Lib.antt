pub mod Tables
pub mod LastInsert
pub mod Trees
pub mod Settled
pub mod Parts
pub mod Places
