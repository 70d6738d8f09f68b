pub mod CodeOrder
pub mod BestLaws
pub mod TurnLaws
pub mod StepLaws
pub mod RunLaws
pub mod Examples
