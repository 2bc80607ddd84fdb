pub mod BlockSteps
pub mod Fits
pub mod PutOnce
pub mod Spans
