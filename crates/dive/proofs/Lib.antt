pub mod PartLemmas
pub mod FollowLemmas
pub mod EndLemmas
pub mod Examples
