pub mod Marks
pub mod Agenda
pub mod Pooled
pub mod Claims
pub mod PoolParts
pub mod Judged
pub mod Ends
