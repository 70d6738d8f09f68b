pub mod VectorLaws
pub mod RefusalLaws
pub mod ProductLemmas
pub mod EntryLemmas
pub mod ShareLemmas
pub mod SumLemmas
pub mod SharedLaws
pub mod Examples
