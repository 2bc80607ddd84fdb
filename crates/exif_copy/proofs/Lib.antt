pub mod FoundSteps
