pub mod FindingLaws
pub mod StoreLaws
pub mod PathLaws
