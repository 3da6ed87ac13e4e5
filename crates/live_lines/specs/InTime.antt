-- Lines that are said in time (docs/FORMATS.md, "Lines as they come").
use Rattle.std.specs.Prelude.{◌≡◌, ℕ, ◌≤◌, List, [], ◌∷◌, ◌++◌, length}
use Rattle.std.specs.declared.option.Option.{Option}
use Rattle.std.specs.List.{AllByRecursion}
use Rattle.ziti_outside.specs.Told.{Gave, Took}
use Rattle.ziti_outside.specs.Views.{Seen}
use Rattle.frame_lines.specs.LineKinds.{Reading}
use Rattle.frame_lines.specs.TextTelling.{text_of}
use Rattle.live_lines.specs.declared.exchanges.Exchange.{Exchange}
use Rattle.live_lines.specs.Exchanges.{source_of, starts_of, ends_of}

-- At the start of a take, when the source had this left and this had been said: what was said since the beginning, when the source had that left
-- and that had been said, are the lines of all that had come by then, and no others. These are the lines of every frame or reply that was whole,
-- up to the first fault.
pub record HasSaid (k : Reading) (left left_then said said_then : Option (List ℕ)) : Type 0 where
  pub came : List ℕ
  pub gave : Gave left left_then came
  pub lines : Took said said_then (text_of k came)

-- How many bytes a take brings at most.
abbrev pub most_taken : ℕ
most_taken = 65536

-- A take, by what the source and the desk were at its start and at its end: it brought some bytes, not too many, and left the desk alone.
pub record IsTake {S D : Type 0} (left : S → Option (List ℕ)) (start end : S × D) : Type 0 where
  pub piece : List ℕ
  pub gave : Gave (left start.0) (left end.0) piece
  pub few : length piece ≤ most_taken
  pub desk : end.1 ≡ start.1

-- All that was done to a source are these takes, one after the other: it began as the first one found it, each other found it as the one before
-- had left it, and it is now as the last one left it.
abbrev pub AreAllTakes : {S D : Type 0} → (S → Option (List ℕ)) → S → List (S × D) → List (S × D) → S → Type 0
AreAllTakes left source [] [] now = now ≡ source
AreAllTakes left source [] (end ∷ ends) now = ⊥
AreAllTakes left source (start ∷ starts) [] now = ⊥
AreAllTakes left source (start ∷ starts) (end ∷ ends) now = (start.0 ≡ source) × IsTake left start end × AreAllTakes left end.0 starts ends now

-- From an exchange to a later one: these takes were made, nothing was done to the source between two of them, and at the start of each the lines
-- of what had come were said.
pub record IsInTime {S D : Type 0} (k : Reading) (left : S → Option (List ℕ)) (seen : D → Seen) (before now : Exchange S D) : Type 0 where
  pub starts : List (S × D)
  pub ends : List (S × D)
  pub begun : starts_of now ≡ starts_of before ++ starts
  pub ended : ends_of now ≡ ends_of before ++ ends
  pub takes : AreAllTakes left (source_of before) starts ends (source_of now)
  pub each : AllByRecursion (λ start. HasSaid k (left (source_of before)) (left start.0) (seen before.desk).said (seen start.1).said) starts
