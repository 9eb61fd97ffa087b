-- Placed says which placement the analysis gives, Sites what is asked of the sites of a program, Laws what its flows have then, and Whole which placement a program has.
pub mod Placed
pub mod Sites
pub mod Laws
pub mod Whole
