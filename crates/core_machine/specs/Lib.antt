pub mod Marks
pub mod Steps
pub mod Shapes
pub mod Pools
pub mod PoolLaws
