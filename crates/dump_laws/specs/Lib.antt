pub mod AnsweredInTurn
pub mod NamedCounts
pub mod SaidDumps
