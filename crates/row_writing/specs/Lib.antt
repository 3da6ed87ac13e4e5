pub mod WorkedRows
pub mod RecordChanges
pub mod TableValues
