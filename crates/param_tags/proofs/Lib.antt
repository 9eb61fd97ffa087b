pub mod Lists
mod Members
pub mod Targets
mod Nearer
mod Finer
mod Same
mod Owned
mod Tagged
mod Setting
mod Ends
mod Adds
mod Joined
mod Roots
mod Flows
mod Places
mod Lesser
mod Batches
mod Within
mod Growing
mod Going
mod Steps
mod Traced
