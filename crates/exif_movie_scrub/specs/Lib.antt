pub mod Zeros
pub mod Requests
pub mod Remainders
pub mod Scrubbing
pub mod Promises
pub mod Texts
pub mod Examples
pub mod FileExamples
