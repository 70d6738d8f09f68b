pub mod NearLemmas
pub mod TermLemmas
pub mod EntryLemmas
pub mod Examples
