pub mod Assigning
pub mod Examples
pub mod Fitting
pub mod Rules
pub mod Texts
pub mod Values
