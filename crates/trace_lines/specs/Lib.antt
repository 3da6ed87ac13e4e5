pub mod TraceWords
pub mod SessionActs
pub mod ActRecords
pub mod TaggedReplies
pub mod TraceTurns
pub mod TraceTexts
pub mod WorkedTexts
