pub mod PointLemmas
pub mod ViewLemmas
pub mod Examples
