pub mod FileAnswers
pub mod FileHeads
pub mod FileSteps
pub mod JpegSteps
pub mod ScrubbedSteps
pub mod SendingFiles
pub mod WebpSteps
