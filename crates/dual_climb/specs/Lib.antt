pub mod Climbs
pub mod States
pub mod Terms
