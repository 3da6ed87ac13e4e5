pub mod FallenRecords
pub mod NamedRecords
