pub mod FaultLines
pub mod IptcLines
pub mod Lines
pub mod XmpLines
