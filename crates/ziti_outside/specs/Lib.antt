pub mod Told
pub mod Causes
pub mod Images
pub mod Views
pub mod Moments
pub mod Untouched
