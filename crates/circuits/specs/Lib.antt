pub mod CircuitTables
pub mod LostCircuits
pub mod WorkedCircuits
pub mod CircuitChanges
pub mod ChangedCircuits
pub mod MovedCircuits
