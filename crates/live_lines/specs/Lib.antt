pub mod LiveLines
pub mod Exchanges
pub mod InTime
pub mod LiveTellings
