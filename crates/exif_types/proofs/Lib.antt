pub mod IndexLemmas
pub mod LawsLemmas
pub mod Refusing
pub mod ValueLemmas
