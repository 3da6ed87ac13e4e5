-- What is judged is exact.
use Rattle.row_judging.specs.JudgedRows.{JudgesExactly}
use Rattle.row_judging.proofs.SoundStates.{sound}
use Rattle.row_judging.proofs.FoundStates.{complete}

pub judges : JudgesExactly
judges = record { sound = sound; complete = complete }
