pub mod Entries
pub mod Changes
pub mod TableCodes
pub mod Climbing
pub mod AfterChange
pub mod Turns
