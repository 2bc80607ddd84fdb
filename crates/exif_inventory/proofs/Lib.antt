pub mod CrcSteps
pub mod ScanSteps
pub mod WalkSteps
pub mod BoxHeads
