pub mod TermPlanLaws
pub mod SpelledTerms
