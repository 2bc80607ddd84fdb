pub mod WalkSteps
pub mod LoopSteps
pub mod ItemSteps
pub mod SpanOrder
pub mod GapSteps
pub mod PartOrder
pub mod Apart
