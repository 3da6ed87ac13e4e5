pub mod GoingLaws
pub mod WalkedLinks
pub mod MovedRows
pub mod JudgedCircuits
pub mod GrantedCircuits
pub mod LeastWays
pub mod EmptiedLaws
pub mod SiftedNumbers
