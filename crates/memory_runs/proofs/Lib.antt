pub mod OneMachines
pub mod UsedInputs
pub mod WholeRuns
pub mod SafeRuns
pub mod SeenReplays
