mod EntrySteps
mod PrefixSteps
