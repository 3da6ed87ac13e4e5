pub mod NumberedNames
pub mod LoadLaws
pub mod LoadLengths
pub mod SpelledLoads
