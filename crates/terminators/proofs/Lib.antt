pub mod TermLaws
pub mod KeptLaws
pub mod ChangeLaws
