pub mod Probes
pub mod Stayers
pub mod Refusals
pub mod Choices
pub mod Branches
