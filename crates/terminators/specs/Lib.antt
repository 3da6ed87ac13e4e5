pub mod TermTables
pub mod TermRules
pub mod NamedTerms
pub mod WorkedTerms
pub mod TermChanges
pub mod ChangedTerms
