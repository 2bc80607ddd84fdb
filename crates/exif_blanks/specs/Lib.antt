pub mod HeifBlanks
pub mod Steps
pub mod BaseSteps
pub mod ConfigSteps
pub mod HeifSteps
pub mod JpegStreams
pub mod JpegStreamExamples
pub mod BlankExamples
