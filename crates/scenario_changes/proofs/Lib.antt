pub mod ChangeLemmas
pub mod NumberLemmas
pub mod SumLemmas
pub mod ProblemLaws
pub mod RootLemmas
pub mod ChangeExamples
pub mod AnswerExamples
