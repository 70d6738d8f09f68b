pub mod Settlements
pub mod Coverage
pub mod Shared
pub mod Laws
pub mod Machine
pub mod Interleavings
