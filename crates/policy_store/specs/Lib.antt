pub mod PolicyTables
pub mod PolicyRules
pub mod Stores
pub mod WorkedPolicies
pub mod StepsOfRelations
pub mod PolicyChanges
