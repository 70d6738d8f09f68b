pub mod Messages
pub mod Files
pub mod Endings
pub mod Answered
pub mod Runs
pub mod Complete
