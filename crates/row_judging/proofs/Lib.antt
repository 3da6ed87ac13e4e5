mod SoundStates
mod FoundStates
pub mod JudgedStates
pub mod SerialRows
pub mod SizedRows
