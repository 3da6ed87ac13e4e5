use Rattle.std.proofs.Common.{length, []}
use Rattle.session_mux.specs.Completion.{GoesTo}
use Rattle.session_mux.specs.MuxSteps.{MayWantMemory}
use Rattle.session_mux.proofs.muxing.Mux.first_event.Given as goal

-- no event was given yet: what was moved changed none, and memory that is wanted now was wanted at first
abbrev pub invariant-moves : goal.invariant-moves
invariant-moves l = record { goes : GoesTo l.fn.self l.self []; wants : MayWantMemory l.self → MayWantMemory l.fn.self }

abbrev pub decreases-moves : goal.decreases-moves
decreases-moves l = length l.self.input
