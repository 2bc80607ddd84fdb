pub mod Buffers
pub mod Calls
pub mod Locations
pub mod Statuses
