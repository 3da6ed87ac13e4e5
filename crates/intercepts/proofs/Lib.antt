pub mod FirstLaws
pub mod ClaimLaws
pub mod PickLaws
pub mod ClashLaws
