pub mod AnsweredSteps
pub mod CrcSame
pub mod CrcSteps
pub mod FirstSteps
pub mod OtherSteps
pub mod PortionSteps
pub mod TwiceSteps
mod HeifParts
