pub mod SerialRows
pub mod NarrowRows
pub mod KeptStates
pub mod MachineSteps
pub mod OpenedFolders
pub mod TurnedLaws
pub mod AdvancedPlans
pub mod SubmittedCommands
mod CompactedStates
pub mod FollowedSteps
