-- What holds of types, values, paths and words: each law is the clause of a function of `laws`.
pub mod Laws
