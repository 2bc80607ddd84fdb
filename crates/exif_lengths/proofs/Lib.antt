pub mod PicturesSteps
pub mod WalkSteps
