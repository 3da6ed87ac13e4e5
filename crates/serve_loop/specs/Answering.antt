-- How far the answering of an input has come. Only private contracts cite these.
use Rattle.std.specs.Prelude.{◌≡◌, Bool, List, ℕ}
use Rattle.std.specs.declared.option.Option.{Option}
use Rattle.ziti_outside.specs.Views.{Seen}
use Rattle.session_mux.specs.declared.sessions.Form.{Form}
use Rattle.session_mux.specs.Completion.{Standing, start_of, fed}
use Rattle.run_notes.specs.KnownSessions.{Known, known_in}

-- What a run has told by a moment: whether a note failed, after which none is written, and what its desk shows.
pub record Telling : Type 0 where
  pub failed : Bool
  pub desk : Seen

-- From one moment to a later one nothing was noted.
pub record NotesNothing (old new : Telling) : Type 0 where
  pub failed : new.failed ≡ old.failed
  pub notes : new.desk.noted ≡ old.desk.noted
  pub failed_notes : new.desk.note_faults ≡ old.desk.note_faults

-- Where the answering stands between two events: what is known of the sessions, the machine, where the sessions stand in what is left of
-- the input, and what was told.
pub record Progress (M : Type 0) : Type 0 where
  pub known : Known
  pub machine : M
  pub standing : Standing
  pub told : Telling

-- What one event changes of it: what is known, the machine, and the replies that were said.
pub record Served (M : Type 0) : Type 0 where
  pub known : Known
  pub machine : M
  pub said : Option (List ℕ)

-- It, by what is known of the sessions, the machine, and what the desk shows.
abbrev pub served_by : {M : Type 0} → Known → M → Seen → Served M
served_by known machine desk = record { known = known; machine = machine; said = desk.said }

-- It, of where the answering stands.
abbrev pub served_at : {M : Type 0} → Progress M → Served M
served_at p = record { known = p.known; machine = p.machine; said = p.told.desk.said }

-- Where the answering stands, by what is known of the sessions, the machine, where the sessions stand, whether a note failed, and what
-- the desk shows.
abbrev pub progress_at : {M : Type 0} → Known → M → Standing → (failed : Bool) → Seen → Progress M
progress_at known machine st failed desk = record { known = known; machine = machine; standing = st; told = record { failed = failed; desk = desk } }

-- Where it stands before any event of some bytes of an input, from a machine on.
abbrev pub begun : {M : Type 0} → Form → M → List ℕ → Telling → Progress M
begun form m used told = record { known = known_in form; machine = m; standing = fed (start_of form) used; told = told }
