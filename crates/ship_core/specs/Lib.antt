pub mod Shipping
pub mod SaidFrames
pub mod Faults
pub mod Steps
pub mod WorkedShipments
