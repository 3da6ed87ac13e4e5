pub mod FitRows
pub mod DumpedRows
pub mod MadeRecords
