pub mod PlannedLines
pub mod PlanTurns
pub mod WorkedPlans
