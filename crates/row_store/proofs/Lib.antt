pub mod OpeningLaws
pub mod OneStates
pub mod StateRows
pub mod CommitLaws
mod WorkedLaws
mod MoveLaws
mod CompactLaws
pub mod NarrowLaws
mod GateReadings
pub mod ReplacedLaws
