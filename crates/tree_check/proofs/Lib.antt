mod PointLemmas
mod WalkLemmas
mod CheckLemmas
pub mod RefusalLemmas
