pub mod CarriedLaws
pub mod PlanLaws
