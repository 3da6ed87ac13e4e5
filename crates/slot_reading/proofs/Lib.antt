pub mod MapRows
pub mod BatchLaws
pub mod SlotReadings
pub mod PuttableRows
