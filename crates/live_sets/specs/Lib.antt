pub mod Inverse
pub mod Members
