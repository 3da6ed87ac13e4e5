pub mod GateLaws
pub mod SlotLaws
pub mod RoomLaws
mod StopLaws
mod ReadLaws
