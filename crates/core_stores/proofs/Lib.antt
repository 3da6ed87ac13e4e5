pub mod TakenLaws
pub mod BackwardSteps
pub mod LaterNumbers
pub mod SettledLaws
pub mod LoadLaws
pub mod SerialLaws
