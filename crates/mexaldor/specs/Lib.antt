pub mod Endings
pub mod Invocations
pub mod Line
