pub mod Answer
pub mod Jpeg
pub mod JpegGrammar
pub mod Removing
pub mod Webp
pub mod WebpGrammar
pub mod WebpSteps
pub mod Within
