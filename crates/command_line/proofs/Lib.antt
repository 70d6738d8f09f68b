mod NumberLemmas
mod OptionLemmas
mod WordExamples
mod RangeLemmas
