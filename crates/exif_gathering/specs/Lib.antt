pub mod Cards
pub mod Last
pub mod Pages
pub mod Reports
pub mod Rows
pub mod Steps
