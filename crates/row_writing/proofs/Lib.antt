mod SpellingLaws
pub mod CoverLaws
