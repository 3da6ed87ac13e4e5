pub mod PieceLaws
pub mod TurnLaws
pub mod ReadBackLaws
pub mod SendLaws
pub mod ReplyLaws
pub mod TakeLaws
