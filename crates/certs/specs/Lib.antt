pub mod Places
pub mod Costs
pub mod Levels
pub mod Verdicts
pub mod Shared
pub mod Trees
pub mod Claims
pub mod Laws
