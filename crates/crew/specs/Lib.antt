pub mod Names
pub mod Shares
pub mod Crews
