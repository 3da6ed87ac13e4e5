pub mod StreamSteps
pub mod Calls
pub mod WorkedPieces
