mod HistoryStates
mod DecidedBatches
mod TakenFrames
mod OrderedFrames
