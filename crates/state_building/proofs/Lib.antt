pub mod GrownStates
pub mod StandingRecords
pub mod SkippedStates
pub mod JoinedStates
pub mod ComingRows
pub mod BuiltRows
