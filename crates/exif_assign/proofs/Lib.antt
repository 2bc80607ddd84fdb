pub mod Naming
pub mod Powers
mod SpelledTypes
