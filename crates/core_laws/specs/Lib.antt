pub mod WorkedChanges
pub mod WorkedSettling
pub mod WorkedRows
