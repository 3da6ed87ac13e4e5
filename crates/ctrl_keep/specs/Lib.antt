pub mod MigratedFolders
pub mod TurnedStores
pub mod KeptMachine
pub mod KeptBatches
pub mod KeptController
pub mod Faults
pub mod WorkedMachines
pub mod CompactionReplies
