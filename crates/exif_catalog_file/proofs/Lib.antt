pub mod Encodings
pub mod Finding
pub mod Handing
pub mod Rowwise
pub mod Showing
pub mod Streaming
pub mod Tabs
