pub mod PolicyStates
pub mod ForgottenEntities
pub mod PutPolicies
pub mod PolicyPlans
pub mod PlannedPolicies
pub mod RuledPolicies
pub mod PolicyRows
pub mod WorkedPutting
