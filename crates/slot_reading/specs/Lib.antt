pub mod BatchRows
pub mod Changes
pub mod SlotReading
