pub mod Replay
pub mod Steps
pub mod Sums
pub mod Cuts
pub mod EndSums
pub mod Queues
pub mod Engines
pub mod Laws
