pub mod SaidLaws
pub mod AnswerLaws
pub mod PageLaws
pub mod TurnLaws
