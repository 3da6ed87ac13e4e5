pub mod MemSteps
pub mod StageSteps
pub mod RoomSteps
