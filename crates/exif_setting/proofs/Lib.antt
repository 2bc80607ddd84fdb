pub mod Refused
pub mod SecondFound
pub mod SetInPlace
pub mod SetKept
pub mod SetWhole
