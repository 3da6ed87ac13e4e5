pub mod RowStates
pub mod EqualStates
pub mod KeptRowLaws
pub mod PlanLaws
