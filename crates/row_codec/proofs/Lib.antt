pub mod FieldLaws
pub mod SkipLaws
pub mod BatchLaws
