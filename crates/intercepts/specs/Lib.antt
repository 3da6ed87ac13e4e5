pub mod FirstHits
pub mod InterceptChanges
