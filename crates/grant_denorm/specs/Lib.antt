pub mod PairCounts
pub mod FlatRows
pub mod Deltas
pub mod Steps
pub mod CountsAfter
pub mod TakenSteps
pub mod MovedCounts
pub mod WorkedChanges
