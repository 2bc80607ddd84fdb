pub mod Counting
pub mod Moves
pub mod Reading
pub mod ReadingRows
pub mod Types
