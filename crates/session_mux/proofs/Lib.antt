pub mod EventLaws
pub mod TableLaws
pub mod RecordLaws
pub mod GoingLaws
pub mod StepLaws
pub mod CompletionLaws
pub mod RecordReadings
pub mod FaultLaws
