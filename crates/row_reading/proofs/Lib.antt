mod FormLaws
mod ValueLaws
pub mod RowLaws
mod LoopLaws
mod AddressReading
mod ClaimReading
