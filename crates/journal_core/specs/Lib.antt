pub mod Slots
pub mod Heads
pub mod Faults
pub mod WorkedSlots
pub mod WorkedDesks
pub mod Room
pub mod AppendedRecords
