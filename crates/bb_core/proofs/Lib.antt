pub mod ListWrites
pub mod TreeSteps
pub mod CoverageLaws
pub mod HeldLaws
pub mod WordLaws
pub mod MachineLaws
pub mod Examples
pub mod MachineExamples
