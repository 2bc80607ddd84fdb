pub mod LawsFiles
pub mod ReaderFronts
pub mod ReaderOwnData
pub mod ReportingFindings
pub mod ReportingLines
