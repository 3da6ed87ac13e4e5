pub mod KnownLaws
pub mod NoteLaws
pub mod PlainInputs
pub mod RestLaws
