pub mod Dumps
pub mod RowDumps
pub mod WorkedDumps
