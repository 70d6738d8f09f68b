pub mod Merging
pub mod SharedLaws
pub mod CrewLaws
