pub mod Draws
pub mod LoadCommands
pub mod LoadFrames
pub mod LoadSteps
