pub mod MemberLaws
pub mod TurnLaws
pub mod StepsInState
pub mod PolicyCounts
pub mod PolicySteps
