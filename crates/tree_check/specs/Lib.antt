pub mod Fronts
pub mod Checks
pub mod Walks
pub mod Laws
