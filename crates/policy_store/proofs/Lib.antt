pub mod FoundPolicies
