pub mod Arounds
pub mod UsedLaws
pub mod EntityPlans
pub mod ApplyLaws
pub mod RowLaws
