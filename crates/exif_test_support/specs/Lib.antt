pub mod FromMemory
