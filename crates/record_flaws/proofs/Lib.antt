pub mod SoundPolicies
pub mod LinkFlaws
pub mod EntityFlaws
pub mod ClaimFlaws
