pub mod AnswerParts
pub mod ReplyLines
pub mod AnswerLines
pub mod AnswerTurns
pub mod ReplyPlaces
pub mod WorkedAnswers
