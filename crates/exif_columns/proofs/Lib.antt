pub mod CellSteps
pub mod ColumnSteps
pub mod Encodings
pub mod Naming
pub mod ReadBack
pub mod Tabs
