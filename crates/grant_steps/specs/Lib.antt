pub mod Members
pub mod GrantKinds
pub mod GrantChanges
pub mod EntitySteps
pub mod LeadingSteps
pub mod WorkedMembers
pub mod PolicySteps
