mod NameListLaws
mod SideLaws
pub mod KindLaws
mod FirstCauseLaws
mod CauseLaws
pub mod SpelledLaws
mod FormLaws
mod ValueLaws
