pub mod Vectors
pub mod Refusals
pub mod Counting
pub mod Shared
pub mod SharedParts
pub mod Laws
