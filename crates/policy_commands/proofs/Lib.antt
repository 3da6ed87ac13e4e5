pub mod Arounds
pub mod PolicyUses
pub mod SpelledPolicies
pub mod RefusedPolicies
pub mod PolicyPlans
pub mod PolicyApplyLaws
pub mod PolicyRowLaws
