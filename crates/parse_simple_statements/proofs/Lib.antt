pub mod Marks
pub mod NameLists
pub mod Starts
pub mod Shortest
pub mod ValueLists
pub mod ValueSpecsFollowing
pub mod ValueSpecsBegins
pub mod ValueSpecsViable
pub mod ValueSpecsSteps
pub mod ValueSpecsQuotient
pub mod SimplesFollowing
pub mod SimplesNames
pub mod SimplesBegins
pub mod SimplesViable
pub mod SimplesSteps
pub mod SimplesQuotient
pub mod NameSpans
pub mod Failures
pub mod Begins
pub mod SpecBegins
pub mod NamesIn
pub mod SimpleSteps
mod SpecsForetelling
mod SimplesForetelling
