pub mod DecimalLemmas
pub mod DigitsLemmas
pub mod PadLemmas
pub mod PlainLemmas
pub mod QuotedLemmas
pub mod SubsecLemmas
