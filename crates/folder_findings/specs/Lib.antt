pub mod Spans
pub mod FoundFiles
pub mod Causes
pub mod FindingLines
pub mod WorkedFiles
