pub mod SoundRows
pub mod StoresOfStates
pub mod LastClaims
pub mod FoundFlaws
pub mod WorkedFlaws
