-- What one line of a text does to the frames that were put down. Only private contracts cite these.
use Rattle.std.specs.Prelude.{◌≡◌, ℕ, ◌+◌, List, [], ◌∷◌, ◌++◌, Some, Ok, Err}
use Rattle.std.specs.declared.result.Result.{Result}
use Rattle.std.specs.List.{flat_map}
use Rattle.channel_frame.specs.FrameSpelling.{spelling}
use Rattle.frame_lines.specs.declared.lines.LineCause.{LineCause}
use Rattle.frame_lines.specs.TextReading.{frames_from, fault_from}

-- The line has no fault: what is put down and what the lines behind give is what the line and they gave.
pub record GoesOn (next : ℕ) (line before now : List ℕ) (then : ℕ) : Type 0 where
  pub frames : (lines : List (List ℕ)) → now ++ flat_map spelling (frames_from lines then) ≡ before ++ flat_map spelling (frames_from (line ∷ lines) next)
  pub fault : (lines : List (List ℕ)) (number : ℕ) → fault_from lines (number + 1) ≡ fault_from (line ∷ lines) number

-- The line says no frame: nothing is put down.
pub record EndsAt (next : ℕ) (line before now : List ℕ) (cause : LineCause) : Type 0 where
  pub stays : now ≡ before
  pub frames : (lines : List (List ℕ)) → frames_from (line ∷ lines) next ≡ []
  pub fault : (lines : List (List ℕ)) (number : ℕ) → fault_from (line ∷ lines) number ≡ Some (record { line = number; cause = cause })

-- A turn of the reading of a text.
abbrev pub TakesLine : ℕ → List ℕ → List ℕ → List ℕ → Result ℕ LineCause → Type 0
TakesLine next line before now (Ok then) = GoesOn next line before now then
TakesLine next line before now (Err cause) = EndsAt next line before now cause
