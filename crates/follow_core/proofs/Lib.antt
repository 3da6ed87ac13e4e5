pub mod BatchWords
mod KeptRecords
pub mod JudgedStates
mod JudgedPuts
mod DecidedBatches
mod KeptCopies
mod KeptStores
mod HeldParts
mod LeadingBatches
mod SoughtRecords
mod ReceivedBatches
mod FoundLeads
mod KeptOn
mod FollowedFrames
pub mod FollowedStores
