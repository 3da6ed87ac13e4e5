pub mod WorkedAnswers
pub mod WorkedStops
pub mod WorkedCopies
