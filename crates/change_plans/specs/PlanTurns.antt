-- What one line does to a state, to its rows and to what was put down of refusals. Only private contracts cite these.
use Rattle.std.specs.Prelude.{◌≡◌, ℕ, ◌+◌, true, List, [], ◌∷◌, ◌++◌, Some, Ok, Err}
use Rattle.std.specs.declared.result.Result.{Result}
use Rattle.ctrl_model.specs.declared.formats.Format.TheVariants.{Two}
use Rattle.ctrl_model.specs.declared.replies.Reply.{Reply}
use Rattle.ctrl_model.specs.declared.replies.Reply.TheVariants.{Refused}
use Rattle.ctrl_model.specs.State.{State}
use Rattle.ctrl_model.specs.ValidState.{ValidState}
use Rattle.row_codec.specs.Batches.{spelled_rows}
use Rattle.row_codec.specs.StateRows.{rows_of}
use Rattle.slot_reading.specs.BatchRows.{ByteRows}
use Rattle.ctrl_core.specs.KeptState.{Cored}
use Rattle.command_codec.specs.BodyMeaning.{meaning}
use Rattle.frame_lines.specs.declared.lines.Line.{Line}
use Rattle.frame_lines.specs.declared.lines.LineCause.{LineCause}
use Rattle.frame_lines.specs.TextReading.{fault_from}
use Rattle.change_plans.specs.PlannedLines.{line_answer, planned_from, refused_line, refused_lines}

-- A core goes with some rows: it is live, its state is valid, and in the second format these are the rows of the
-- state.
pub record GoesWith (core : Cored) (rows : ByteRows) : Type 0 where
  pub live : core.live ≡ true
  pub valid : ValidState core.state
  pub rows_are : rows ≡ spelled_rows (rows_of Two core.state)

-- The line of the reply to a line of this number, where it refuses; nothing where it does not.
abbrev pub refusal_told : ℕ → Reply → List ℕ
refusal_told number (Refused why) = refused_line (record { line = number; why = why })
refusal_told number _ = []

-- A line that says this was answered in a state: the state behind it, and what was put down.
pub record PlansLine (number : ℕ) (line : Line) (s t : State) (before now : List ℕ) : Type 0 where
  pub next : t ≡ (line_answer (meaning line.content line.body) s).1
  pub told : now ≡ before ++ refusal_told number (line_answer (meaning line.content line.body) s).0

-- The line has no fault: what the lines behind come to is what it and they came to.
pub record GoesOn (number : ℕ) (line : List ℕ) (s t : State) (before now : List ℕ) : Type 0 where
  pub state : (lines : List (List ℕ)) → (planned_from lines (number + 1) t).0 ≡ (planned_from (line ∷ lines) number s).0
  pub refused : (lines : List (List ℕ))
      → now ++ refused_lines (planned_from lines (number + 1) t).1 ≡ before ++ refused_lines (planned_from (line ∷ lines) number s).1
  pub fault : (lines : List (List ℕ)) → fault_from lines (number + 1) ≡ fault_from (line ∷ lines) number

-- A turn over a line: it goes on, or the line says no frame.
abbrev pub TakesLine : ℕ → List ℕ → (s t : State) → (before now : List ℕ) → Result (Unit {0}) LineCause → Type 0
TakesLine number line s t before now (Ok _) = GoesOn number line s t before now
TakesLine number line s t before now (Err cause) =
    (lines : List (List ℕ)) → fault_from (line ∷ lines) number ≡ Some (record { line = number; cause = cause })
