pub mod RoleEntries
pub mod WrittenFields
pub mod WrittenWords
pub mod CommandFields
pub mod BodyTexts
pub mod ValueTexts
