pub mod WholeReplays
pub mod Replays
pub mod WorkedReplays
