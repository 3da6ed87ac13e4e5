pub mod BitRows
pub mod SlotLemmas
pub mod UseLaws
pub mod RoomLaws
pub mod SlotKeeping
pub mod WorkedRows
pub mod ChainLaws
