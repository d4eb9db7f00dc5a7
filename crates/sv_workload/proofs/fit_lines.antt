-- A line whose words are as they should be makes what a workload may hold.
pub mod Ranged
pub mod Capping
pub mod Commands
pub mod StepActs
pub mod FitSteps
