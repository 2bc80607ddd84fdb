pub mod BigEndian
pub mod Naming
pub mod ScanParts
pub mod Scans
pub mod TextSteps
