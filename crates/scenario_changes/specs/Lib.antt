pub mod Changes
pub mod Refusals
pub mod Problems
pub mod Answers
