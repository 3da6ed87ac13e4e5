-- What one step of many sessions gives, and how much is held where nothing more is given.
use Rattle.std.specs.Prelude.{◌≡◌, ℕ, ◌<◌, ◌≤◌, [], ◌∷◌, length, map, None, Some}
use Rattle.std.specs.declared.option.Option.{Option}
use Rattle.frame_stream.specs.StreamSteps.{most_frame}
use Rattle.session_mux.specs.declared.events.Event.{Event}
use Rattle.session_mux.specs.declared.events.MuxFault.{MuxFault}
use Rattle.session_mux.specs.declared.events.MuxFault.TheVariants.{BadRecord, NoMemory}
use Rattle.session_mux.specs.declared.sessions.Form.TheVariants.{Plain}
use Rattle.session_mux.specs.declared.muxing.Step.{Step}
use Rattle.session_mux.specs.declared.muxing.Step.TheVariants.{Moved, Told, Ended, Stuck}
use Rattle.session_mux.specs.Completion.{Standing, rest_len, session_at, settled_session, fault_met, arrivals_of, end_of, events_held, GoesTo, IsBadAt, IsUnfinished}

-- The most bytes of an unfinished record.
abbrev pub most_record : ℕ
most_record = 65538

-- What is held is an unfinished record, and of each session an unfinished frame.
pub record HoldsFew (st : Standing) : Type 0 where
  pub record_few : length st.input ≤ most_record
  pub frames_few : (s : ℕ) → rest_len (session_at st.sessions s) ≤ most_frame

-- All bytes of sessions that came were moved to them: at the end of the input each stands as it does.
abbrev pub HasMoved : Standing → Type 0
HasMoved st = (end_of st).sessions ≡ map settled_session st.sessions

-- Where memory may be wanted for the next event: a whole record is held, as plain input is one, or a session holds an event. So it
-- is not where nothing is left but an unfinished record or a bad one. In plain input session 0 has met no fault, since nothing is read
-- behind one.
pub record MayWantMemory (st : Standing) : Type 0 where
  pub some : st.input ≡ [] → events_held 0 st.sessions ≡ [] → ⊥
  pub whole : arrivals_of st ≡ [] → events_held 0 st.sessions ≡ [] → ⊥
  pub plain : st.form ≡ Plain → fault_met (session_at st.sessions 0) ≡ None

-- One step where no session holds an event: input is moved to its session, a record tells an event, the input is unfinished,
-- or a bad record is next.
abbrev pub StepGives : Standing → Standing → Step → Type 0
StepGives old new Moved = GoesTo old new [] × (length new.input < length old.input) × (MayWantMemory new → MayWantMemory old)
StepGives old new (Told e) = GoesTo old new (e ∷ [])
StepGives old new Ended = (new ≡ old) × IsUnfinished old × HasMoved old × (length old.input ≤ most_record)
StepGives old new (Stuck at) = (new ≡ old) × IsBadAt old at

-- A next event, where there is one: it comes first, and the others come from the new standing. Where there is none, what is left
-- is unfinished, little is held, and what a session holds is what is left of it.
pub record GivesNone (old new : Standing) : Type 0 where
  pub goes : GoesTo old new []
  pub unfinished : IsUnfinished old
  pub few : HoldsFew new
  pub moved : HasMoved new

-- Why there is no next event: a bad record comes first in what is left, or memory is wanting. Neither loses anything.
abbrev pub GivesFault : Standing → Standing → MuxFault → Type 0
GivesFault old new (BadRecord at) = GoesTo old new [] × IsBadAt old at
GivesFault old new NoMemory = GoesTo old new []

-- The first event of what sessions hold is given; or they hold none, little is held of each, and all stays.
abbrev pub HeldGives : Standing → Standing → Option Event → Type 0
HeldGives old new None = (new ≡ old) × (events_held 0 old.sessions ≡ []) × ((s : ℕ) → rest_len (session_at old.sessions s) ≤ most_frame)
HeldGives old new (Some e) = GoesTo old new (e ∷ [])
