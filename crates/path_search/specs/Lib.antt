pub mod Searches
pub mod Supports
pub mod Visits
pub mod MirroredSearches
pub mod ExitCosts
