pub mod Boundaries
pub mod Characters
pub mod EntrySteps
pub mod Pieces
pub mod SharedPaths
pub mod Symbols
