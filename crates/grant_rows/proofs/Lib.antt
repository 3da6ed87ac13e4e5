pub mod MovedEntries
pub mod CoveredCounts
