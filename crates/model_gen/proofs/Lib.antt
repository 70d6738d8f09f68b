pub mod DrawLemmas
pub mod TextExamples
pub mod TextLemmas
pub mod TextLengths
