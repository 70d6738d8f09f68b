pub mod Dives
pub mod Divers
pub mod Plans
pub mod Moves
