pub mod Files
pub mod Found
pub mod Lines
pub mod Reports
pub mod Sniffing
pub mod Writes
