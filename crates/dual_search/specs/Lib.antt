pub mod Totals
pub mod Gains
pub mod Ascents
