pub mod BlockSteps
pub mod EndianSteps
pub mod Feeding
pub mod ReadSteps
pub mod SeekableSteps
pub mod Sending
pub mod Sent
