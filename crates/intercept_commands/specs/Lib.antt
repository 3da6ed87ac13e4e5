pub mod InterceptRows
pub mod InterceptPlans
pub mod PlannedIntercepts
