mod ChangesExamples
pub mod NameLaws
pub mod TableLemmas
pub mod LineLemmas
pub mod Runs
pub mod Selections
pub mod Steps
pub mod FieldLemmas
