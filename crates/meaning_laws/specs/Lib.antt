-- What holds of every run: each law is the clause of a function of `laws`.
pub mod Laws
pub mod Pointers
pub mod Rules
pub mod Typing
