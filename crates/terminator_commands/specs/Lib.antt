pub mod TermChanges
pub mod TermPlans
pub mod PlannedTerms
pub mod TermRows
