pub mod Answered
pub mod Numbered
