pub mod StandLaws
pub mod SwitchLaws
mod HeaderLaws
