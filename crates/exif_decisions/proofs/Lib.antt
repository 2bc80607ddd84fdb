pub mod ListingLemmas
pub mod ReadableLemmas
pub mod SummaryLemmas
