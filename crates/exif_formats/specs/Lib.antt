mod Examples
pub mod Failing
pub mod Formats
pub mod Headers
pub mod Laws
pub mod Magic
pub mod Pictures
pub mod Jxl
pub mod JxlSteps
pub mod JxlGrammar
pub mod JxlExamples
pub mod Cr3
pub mod Cr3Grammar
pub mod Cr3Steps
pub mod RawExamples
pub mod Raf
pub mod RafGrammar
