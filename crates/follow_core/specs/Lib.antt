pub mod BatchBytes
pub mod Following
pub mod FollowedCopies
pub mod TakenFrames
pub mod TakenReplies
pub mod Faults
pub mod Steps
pub mod WorkedCopies
