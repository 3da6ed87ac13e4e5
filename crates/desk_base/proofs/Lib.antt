pub mod MemLaws
pub mod PieceLaws
pub mod StopLaws
pub mod KeptLaws
