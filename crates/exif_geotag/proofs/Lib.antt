pub mod AtSteps
pub mod FormatSteps
pub mod SortSteps
pub mod StepSteps
pub mod WalkSteps
pub mod TrackLaws
