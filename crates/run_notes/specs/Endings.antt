-- How a run ends: the ending that the input's bytes decide, and what cuts a run short (docs/RULES.md, "How a run ends").
use Rattle.std.specs.Prelude.{◌≡◌, ℕ, Bool, true, false, List, [], None, Some}
use Rattle.std.specs.declared.option.Option.{Option}
use Rattle.session_mux.specs.declared.sessions.Form.{Form}
use Rattle.session_mux.specs.Completion.{Standing, events_of, end_of, events_held, begins_bad}
use Rattle.session_mux.specs.MuxSteps.{HasMoved}
use Rattle.run_notes.specs.declared.ends.End.{End}
use Rattle.run_notes.specs.declared.ends.End.TheVariants.{Whole, More, Fault}
use Rattle.run_notes.specs.declared.ends.Cut.{Cut}
use Rattle.run_notes.specs.declared.ends.Cut.TheVariants as cut
use Rattle.run_notes.specs.declared.status.Status.{Status}
use Rattle.run_notes.specs.declared.status.Status.TheVariants.{Done, Usage, BadInput, Truncated, ReadFault, WriteFault, DiskFault, Damaged, NoMemory, InputTooLong, FolderFull}
use Rattle.run_notes.specs.Inputs.{is_bad_input, has_rest}

-- The status that an input decides: by whether it has a fault, whether bytes are left of it, and whether the source gave more than
-- are used. A fault comes first, then a longer input, then a rest.
abbrev pub ending_at : (bad rest more : Bool) → Status
ending_at true rest more = BadInput
ending_at false rest true = InputTooLong
ending_at false true false = Truncated
ending_at false false false = Done

-- The status that the used bytes decide, and whether the source gave more.
abbrev pub ending : Form → List ℕ → Bool → Status
ending form used more = ending_at (is_bad_input form used) (has_rest form used) more

-- Whether a status cuts a run short: a fault of a call, or want of memory.
abbrev pub is_cut : Status → Bool
is_cut Done = false
is_cut Usage = false
is_cut BadInput = false
is_cut Truncated = false
is_cut ReadFault = true
is_cut WriteFault = true
is_cut DiskFault = true
is_cut Damaged = false
is_cut NoMemory = true
is_cut InputTooLong = false
is_cut FolderFull = false

-- Whether a run ended, at a status, with all that it answered kept in its folder: no reply failed, no call on the disk, and memory sufficed.
abbrev pub is_kept : Status → Bool
is_kept Done = true
is_kept Usage = false
is_kept BadInput = true
is_kept Truncated = true
is_kept ReadFault = true
is_kept WriteFault = false
is_kept DiskFault = false
is_kept Damaged = false
is_kept NoMemory = false
is_kept InputTooLong = true
is_kept FolderFull = false

-- ---- a run whose events were all answered

-- No event is left, only unfinished bytes, and all others were moved to their sessions.
pub record IsAllGiven (st : Standing) : Type 0 where
  pub none : events_of st ≡ []
  pub good : begins_bad (end_of st) ≡ false
  pub quiet : events_held 0 st.sessions ≡ []
  pub moved : HasMoved st

-- No event is left, and a bad record is next, at this place.
pub record IsStuckAt (st : Standing) (at : ℕ) : Type 0 where
  pub none : events_of st ≡ []
  pub bad : begins_bad (end_of st) ≡ true
  pub place : (end_of st).before ≡ at

-- How the events came to their end: at unfinished bytes, or at a bad record.
abbrev pub ComesToEnd : Standing → Option ℕ → Type 0
ComesToEnd st None = IsAllGiven st
ComesToEnd st (Some at) = IsStuckAt st at

-- The status of a run whose events were all answered: a read fault first, then what the input decides.
abbrev pub status_at : (bad rest : Bool) → End → Status
status_at bad rest Whole = ending_at bad rest false
status_at bad rest More = ending_at bad rest true
status_at bad rest Fault = ReadFault

-- ---- a run that was cut short

-- The status of a run that was cut short while it answered.
abbrev pub status_of_cut : Cut → Status
status_of_cut cut.NoMemory = NoMemory
status_of_cut cut.Disk = DiskFault
status_of_cut cut.Unsaid = WriteFault
