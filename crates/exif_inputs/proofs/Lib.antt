pub mod ChoosingLemmas
pub mod LineLemmas
pub mod PendingLemmas
pub mod ShownLemmas
