pub mod CutLaws
pub mod FieldLaws
pub mod LineExamples
pub mod LineLaws
pub mod NumberExamples
pub mod NumberLaws
pub mod PartLaws
pub mod TextLaws
