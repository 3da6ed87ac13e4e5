pub mod CountChanges
pub mod MovedCounts
pub mod WorkedMoves
