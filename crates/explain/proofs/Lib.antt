pub mod Texts
pub mod Back
pub mod Passes
pub mod Standing
pub mod Ascending
pub mod Outliving
pub mod Whole
