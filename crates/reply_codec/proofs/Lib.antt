pub mod TextLengths
pub mod BuiltLists
pub mod NameTexts
pub mod AddressTexts
pub mod WordLengths
pub mod ClaimLimits
pub mod Integers
pub mod TokenLaws
