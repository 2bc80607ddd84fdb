pub mod Numbers
pub mod Digits
pub mod Tokens
pub mod Locations
pub mod Headers
pub mod Texts
pub mod Examples
