pub mod LayoutOrder
pub mod Left
pub mod SpanSteps
pub mod Stays
pub mod HeifTwice
pub mod TiffSteps
pub mod TiffTwice
