pub mod PlanLaws
pub mod JoinLaws
pub mod SpelledLinks
