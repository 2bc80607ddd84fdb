pub mod Dates
pub mod Calendar
pub mod Numbers
pub mod Shift
pub mod Examples
