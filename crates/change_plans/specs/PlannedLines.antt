-- What the commands of a text would do to a state, and which of them are refused (docs/FORMATS.md, "Plans").
use Rattle.std.specs.Prelude.{ℕ, ◌+◌, ◌==◌, ◌&&◌, not, cond, if◌then◌else◌, List, [], ◌∷◌, ◌++◌, codes, decimal, Ok, Err}
use Rattle.std.specs.declared.result.Result.{Result}
use Rattle.std.specs.List.{flat_map}
use Rattle.ctrl_model.specs.declared.commands.Command.{Command}
use Rattle.ctrl_model.specs.declared.kinds.Who.TheVariants.{Admin}
use Rattle.ctrl_model.specs.declared.refusals.Refusal.{Refusal}
use Rattle.ctrl_model.specs.declared.refusals.Refusal.TheVariants.{JournalFull}
use Rattle.ctrl_model.specs.declared.replies.Reply.{Reply}
use Rattle.ctrl_model.specs.declared.replies.Reply.TheVariants.{Refused}
use Rattle.ctrl_model.specs.Controller.{answer, numbered}
use Rattle.ctrl_model.specs.Limits.{last_serial}
use Rattle.ctrl_model.specs.SameStates.{same_state}
use Rattle.ctrl_model.specs.State.{State}
use Rattle.command_codec.specs.declared.reading.CodecFault.{CodecFault}
use Rattle.command_codec.specs.BodyMeaning.{meaning, refusal_for}
use Rattle.frame_lines.specs.declared.lines.Line.{Line}
use Rattle.frame_lines.specs.declared.lines.LineCause.{LineCause}
use Rattle.frame_lines.specs.TextLines.{passes}
use Rattle.frame_lines.specs.LineReading.{said_by}
use Rattle.reply_codec.specs.ReplyBody.{reply_body}

-- ---- one line

-- An answer whose state is counted, within the serials that there are: at the last one a change is refused.
abbrev pub within_serials : State → Reply × State → Reply × State
within_serials s a = cond (not (same_state s a.1) && (s.serial == last_serial)) (Refused JournalFull, s) a

-- The answer of the controller to what a line spells: an administrator's command is answered, and its change counted
-- as a folder counts it; what spells no command is refused, and leaves the state.
abbrev pub line_answer : Result Command CodecFault → State → Reply × State
line_answer (Ok c) s = within_serials s (numbered s (answer Admin c s))
line_answer (Err e) s = (Refused (refusal_for e), s)

-- ---- all lines

-- A line that is refused: its number, and why.
pub record RefusedLine : Type 0 where
  pub line : ℕ
  pub why : Refusal

-- What some lines come to: the state behind them, and those that are refused.
abbrev pub Outcome : Type 0
Outcome = State × List RefusedLine

-- The refused lines from a line of this number on, which has a reply, before later ones.
abbrev pub and_refused : ℕ → Reply → List RefusedLine → List RefusedLine
and_refused number (Refused why) later = record { line = number; why = why } ∷ later
and_refused number _ later = later

-- What a line of this number with this answer and the lines behind it come to.
abbrev pub with_answer : ℕ → Reply × State → (State → Outcome) → Outcome
with_answer number a later = ((later a.1).0, and_refused number a.0 (later a.1).1)

-- What a line that says this and the lines behind it come to; it ends at one that says no frame.
abbrev pub and_planned : ℕ → Result Line LineCause → State → (State → Outcome) → Outcome
and_planned number (Err cause) s later = (s, [])
and_planned number (Ok line) s later = with_answer number (line_answer (meaning line.content line.body) s) later

-- What some lines come to from a state on, one after another, where they are counted from this number: each is
-- answered in the state behind those before it, but for those that pass.
abbrev pub planned_from : List (List ℕ) → ℕ → State → Outcome
planned_from [] number s = (s, [])
planned_from (line ∷ lines) number s =
    if passes line then planned_from lines (number + 1) s else and_planned number (said_by line) s (planned_from lines (number + 1))

-- What all lines of a text come to. They are counted from 1, those that pass among them.
abbrev pub planned : List (List ℕ) → State → Outcome
planned lines s = planned_from lines 1 s

-- ---- the lines that tell what is refused

-- A line that tells that a line of this number is refused, with this text behind it.
abbrev pub refused_with : ℕ → List ℕ → List ℕ
refused_with number text = codes "refused " ++ (decimal number ++ (codes " " ++ (text ++ codes "\n")))

-- The line of a refusal: the number of the line that is refused, and the body of the reply, which has the name of the
-- refusal.
abbrev pub refused_line : RefusedLine → List ℕ
refused_line r = refused_with r.line (reply_body (Refused r.why))

-- The lines of all refusals.
abbrev pub refused_lines : List RefusedLine → List ℕ
refused_lines refused = flat_map refused_line refused
