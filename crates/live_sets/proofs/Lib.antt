pub mod BitCounts
pub mod BitSets
mod MembersExamples
pub mod RisingLists
pub mod SetLaws
pub mod SetTests
