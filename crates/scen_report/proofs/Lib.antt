pub mod ReportLemmas
pub mod ReportLaws
pub mod ReportExamples
pub mod SummaryLemmas
pub mod SummaryExamples
