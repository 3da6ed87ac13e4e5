mod TallyLaws
pub mod ShowLaws
pub mod ShownPlans
