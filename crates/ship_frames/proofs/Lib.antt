pub mod PieceLaws
pub mod FrameParts
pub mod ReadingLaws
pub mod GatheringLaws
