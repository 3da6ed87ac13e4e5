pub mod ReplyBody
pub mod ReplyFrame
pub mod ReplyLimits
pub mod ReplyTokens
pub mod WorkedReplies
