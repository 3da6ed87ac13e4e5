pub mod PresentRecords
pub mod CircuitRows
pub mod WorkedLines
pub mod OtherLinks
pub mod EmptiedPairs
pub mod LookedCircuits
