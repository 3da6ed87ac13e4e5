pub mod MarkLaws
pub mod OfferedNumbers
pub mod RuleOrder
pub mod AdvisedParts
pub mod PlainReports
