-- What one line of a text does to what was put down. Only private contracts cite these.
use Rattle.std.specs.Prelude.{◌≡◌, ℕ, ◌+◌, ◌≤◌, List, [], ◌∷◌, ◌++◌, length, Some, Ok, Err, ⊤}
use Rattle.std.specs.declared.result.Result.{Result}
use Rattle.std.specs.List.{flat_map}
use Rattle.trace_lines.specs.declared.said.Said.{Said}
use Rattle.trace_lines.specs.declared.said.Said.TheVariants.{Opens, Sends, Closes}
use Rattle.trace_lines.specs.declared.said.TraceCause.{TraceCause}
use Rattle.trace_lines.specs.declared.seats.Seat.{Seat}
use Rattle.trace_lines.specs.SessionActs.{Act, turned, acts_from, fault_from}
use Rattle.trace_lines.specs.ActRecords.{act_bytes}
use Rattle.channel_frame.specs.FrameSpelling.{longest_body}

-- A frame's body is within its limit.
abbrev pub HasShortBody : Said → Type 0
HasShortBody (Opens who) = ⊤
HasShortBody (Sends line) = length line.body ≤ longest_body
HasShortBody Closes = ⊤

-- What is said of a session was put down, and leaves it there; or it is at fault, and nothing was.
abbrev pub TakesSaid : ℕ → Said → Seat → List ℕ → List ℕ → Result Seat TraceCause → Type 0
TakesSaid s said seat before now (Ok then) = (act : Act) × (turned s said seat ≡ Ok (act, then)) × (now ≡ before ++ act_bytes act)
TakesSaid s said seat before now (Err cause) = (turned s said seat ≡ Err cause) × (now ≡ before)

-- The line has no fault: what is put down and what the lines behind give is what the line and they gave.
pub record GoesOn (seats seats_now : List Seat) (line before now : List ℕ) : Type 0 where
  pub acts : (lines : List (List ℕ)) → now ++ flat_map act_bytes (acts_from lines seats_now) ≡ before ++ flat_map act_bytes (acts_from (line ∷ lines) seats)
  pub fault : (lines : List (List ℕ)) (number : ℕ) → fault_from lines seats_now (number + 1) ≡ fault_from (line ∷ lines) seats number

-- The line is at fault: nothing is put down.
pub record EndsAt (seats : List Seat) (line before now : List ℕ) (cause : TraceCause) : Type 0 where
  pub stays : now ≡ before
  pub acts : (lines : List (List ℕ)) → acts_from (line ∷ lines) seats ≡ []
  pub fault : (lines : List (List ℕ)) (number : ℕ) → fault_from (line ∷ lines) seats number ≡ Some (record { line = number; cause = cause })

-- A turn of the reading of a text.
abbrev pub TakesLine : List Seat → List Seat → List ℕ → List ℕ → List ℕ → Result (Unit {0}) TraceCause → Type 0
TakesLine seats seats_now line before now (Ok _) = GoesOn seats seats_now line before now
TakesLine seats seats_now line before now (Err cause) = EndsAt seats line before now cause
