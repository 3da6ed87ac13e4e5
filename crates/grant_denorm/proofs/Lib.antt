pub mod FlatLaws
pub mod FlatCounts
pub mod RowSteps
pub mod KeptNumbers
pub mod MemberLaws
pub mod DeltaLaws
pub mod EqualCounts
