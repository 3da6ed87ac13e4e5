pub mod LoadedRows
pub mod RefusedRows
pub mod NextPuts
pub mod CountRows
