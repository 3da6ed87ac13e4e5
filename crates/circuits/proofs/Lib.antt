pub mod EndLaws
pub mod CircuitLaws
pub mod ChangeLaws
pub mod MoveLaws
pub mod JudgedMoves
pub mod LossLaws
