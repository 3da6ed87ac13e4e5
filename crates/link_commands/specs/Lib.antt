pub mod LinkChanges
pub mod LinkPlans
pub mod PlannedLinks
pub mod LinkRows
