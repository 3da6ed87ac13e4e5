pub mod Slots
pub mod Uses
pub mod Moving
pub mod Chains
pub mod WorkedSlots
pub mod AttributeRows
