pub mod FrameSpelling
pub mod StreamReading
pub mod SessionBytes
pub mod WorkedFrames
pub mod TailKinds
pub mod AnnouncedFrames
pub mod HeaderValues
