pub mod Arrivals
pub mod Completion
pub mod SessionSteps
pub mod RecordSteps
pub mod MuxSteps
pub mod SessionFrames
pub mod WorkedTraces
