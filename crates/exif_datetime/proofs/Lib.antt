pub mod CalendarSteps
pub mod Inverse
pub mod NumberSteps
