pub mod ZeroSteps
pub mod PartSteps
pub mod Twice
pub mod Kept
