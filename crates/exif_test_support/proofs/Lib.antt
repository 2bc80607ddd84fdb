pub mod MemorySteps
