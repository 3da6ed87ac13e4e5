pub mod FolderLaws
pub mod SaidLaws
pub mod OpenedLaws
pub mod WordLaws
pub mod RunLaws
pub mod FindingLaws
pub mod ComparingLaws
pub mod PlanningLaws
