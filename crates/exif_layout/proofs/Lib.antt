pub mod IfdCounts
pub mod Images
pub mod Moved
pub mod RangesMembers
