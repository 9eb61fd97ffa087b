-- Constants are the contract: what a type holds, and the least and greatest int.
pub mod Constants
