pub mod PlaceLaws
pub mod ReplyLaws
pub mod RequestLaws
pub mod PartLaws
pub mod LoopLaws
pub mod EndLaws
pub mod SequenceLaws
pub mod ToldLaws
