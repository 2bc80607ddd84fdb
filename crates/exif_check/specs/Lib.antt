pub mod Answered
pub mod Checking
pub mod Names
pub mod Json
pub mod Lines
pub mod LineExamples
