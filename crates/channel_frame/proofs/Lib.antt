pub mod NumberLaws
pub mod HeaderLaws
pub mod SpellingLaws
pub mod HeadLaws
pub mod FrontLaws
pub mod ReadingLaws
pub mod SessionLaws
mod FrontParts
pub mod AnnouncedLaws
mod KindLaws
mod LookupLaws
