pub mod SideBySide
pub mod ChangeLines
pub mod RowChanges
pub mod KeptRows
pub mod PlanTexts
pub mod PlanParts
pub mod WorkedChanges
