pub mod BlankSteps
pub mod BareSteps
pub mod BareSame
pub mod SameSteps
