pub mod RecordNames
pub mod RecordWords
pub mod RecordLines
pub mod RowTexts
pub mod WorkedRecords
