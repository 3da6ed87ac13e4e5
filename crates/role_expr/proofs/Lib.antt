pub mod RoleLaws
pub mod RepeatLaws
pub mod RowLaws
