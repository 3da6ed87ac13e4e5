pub mod Pieces
pub mod PieceReading
pub mod GatheredPieces
pub mod WorkedPieces
