pub mod FieldLaws
pub mod ItemLaws
pub mod ClaimLaws
pub mod OnceLaws
pub mod InterceptLaws
mod PlaceLaws
mod BodyValues
mod RuleLaws
