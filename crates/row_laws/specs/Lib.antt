pub mod SaidChanges
pub mod ChangedKeys
pub mod FittingRecords
pub mod OrderedIntercepts
