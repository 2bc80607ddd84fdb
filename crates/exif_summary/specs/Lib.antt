pub mod Finding
pub mod Coordinates
pub mod Dates
pub mod Seen
pub mod Columns
pub mod Bounds
pub mod Choices
