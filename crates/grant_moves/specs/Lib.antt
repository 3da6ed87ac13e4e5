pub mod EntitySides
pub mod GrantTurns
pub mod CountMoves
