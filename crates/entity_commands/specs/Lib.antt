pub mod EntityChanges
pub mod EntityPlans
pub mod PlannedEntities
pub mod WorkedEntities
pub mod EntityRows
