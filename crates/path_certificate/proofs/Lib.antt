pub mod StepLaws
pub mod LowerBounds
pub mod TightChains
pub mod Certificates
pub mod WorkedRows
pub mod SweptSteps
