pub mod Histories
pub mod WorkedHistories
