-- What one frame does to the lines that were put down, and what a turn over some bytes does. Only private contracts cite these.
use Rattle.std.specs.Prelude.{◌≡◌, ℕ, List, [], ◌∷◌, ◌++◌, drop, Ok, Err}
use Rattle.std.specs.declared.result.Result.{Result}
use Rattle.frame_lines.specs.declared.told.TellCause.{TellCause}
use Rattle.frame_lines.specs.declared.decoding.Turned.{Turned}
use Rattle.frame_lines.specs.LineKinds.{Reading}
use Rattle.frame_lines.specs.TellingSoFar.{GoesOn, StandsAt}

-- This is the line of an item, and it was put down with its newline; or it has none, and nothing was.
abbrev pub PutsLine : Result (List ℕ) TellCause → List ℕ → List ℕ → Result (Unit {0}) TellCause → Type 0
PutsLine told before now (Ok _) = (line : List ℕ) × (told ≡ Ok line) × (now ≡ before ++ (line ++ 10 ∷ []))
PutsLine told before now (Err cause) = (told ≡ Err cause) × (now ≡ before)

-- What a turn over some bytes, whose first item has this number and stands at this place, did: wherever the telling stood, it goes on with
-- the rest of them or has ended.
pub record TurnsOn (k : Reading) (number at : ℕ) (bytes : List ℕ) (t : Turned) : Type 0 where
  pub stands : (came text : List ℕ) → GoesOn k came text number at bytes → StandsAt k came (text ++ t.lines) t.number t.at (drop t.used bytes) t.fault
