pub mod RowRecords
pub mod CopiedFields
