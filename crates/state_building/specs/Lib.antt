pub mod RowForms
pub mod JoinedRecords
pub mod BuiltStates
