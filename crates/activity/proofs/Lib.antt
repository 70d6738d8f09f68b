pub mod ProductLemmas
pub mod SumLemmas
pub mod ExtremeLaws
pub mod MissedLemmas
pub mod SpreadLemmas
