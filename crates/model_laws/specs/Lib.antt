pub mod TouchedTables
pub mod ClaimedRoutes
pub mod Denials
pub mod Plans
pub mod JudgedCircuits
pub mod WorkedIntercepts
