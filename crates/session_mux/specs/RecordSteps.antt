-- What stands at the front of a trace, told apart before it is known which sessions are open.
use Rattle.std.specs.Prelude.{◌≡◌, ℕ, ◌+◌, ◌<◌, ◌≤◌, ◌==◌, Bool, true, false, if◌then◌else◌, List, length, take, drop, None, Some}
use Rattle.std.specs.declared.option.Option.{Option}
use Rattle.ctrl_model.specs.NameForm.{is_name}
use Rattle.session_mux.specs.declared.sessions.Stage.{Stage}
use Rattle.session_mux.specs.declared.sessions.Stage.TheVariants.{Unopened, Opened, Closed}
use Rattle.session_mux.specs.declared.records.Look.{Look}
use Rattle.session_mux.specs.declared.records.Look.TheVariants as look
use Rattle.session_mux.specs.Arrivals.{Arrival, Data, Close, RecordFront, Unfinished, Bad, Whole, stages_after, role_at, opening, within, stage_at, record_front}

-- Whether a role byte and the bytes of a name say a role.
abbrev pub says_role : ℕ → List ℕ → Bool
says_role role name =
    if role == 0 then length name == 0 else (if role == 1 then is_name name else (if role == 2 then is_name name else false))

-- What is seen is a record or none by the stages of the sessions.
abbrev pub judged : List Stage → List ℕ → Look → RecordFront
judged stages bytes look.Unfinished = Unfinished
judged stages bytes look.Bad = Bad
judged stages bytes (look.Opens s role len) = opening (stage_at stages s) s (role_at role (take len (drop 4 bytes))) (4 + len)
judged stages bytes (look.Brings s len) = within (stage_at stages s) (Data s (take len (drop 4 bytes))) (4 + len)
judged stages bytes (look.Closes s) = within (stage_at stages s) (Close s) 2

-- How many bytes what is seen takes, and that they are there.
abbrev pub LookFits : List ℕ → Look → Type 0
LookFits bytes look.Unfinished = length bytes ≤ 65538
LookFits bytes look.Bad = Unit {0}
LookFits bytes (look.Opens s role len) = (4 + len ≤ length bytes) × (says_role role (take len (drop 4 bytes)) ≡ true)
LookFits bytes (look.Brings s len) = 4 + len ≤ length bytes
LookFits bytes (look.Closes s) = 2 ≤ length bytes

-- This is what stands at the front, whatever the stages are.
pub record IsLook (bytes : List ℕ) (l : Look) : Type 0 where
  pub front : (stages : List Stage) → record_front stages bytes ≡ judged stages bytes l
  pub fits : LookFits bytes l

-- Whether a session number was not opened.
abbrev pub is_unopened : Stage → Bool
is_unopened Unopened = true
is_unopened Opened = false
is_unopened Closed = false

-- Whether a session number is open.
abbrev pub is_opened : Stage → Bool
is_opened Unopened = false
is_opened Opened = true
is_opened Closed = false

-- The whole record at the front is passed over, and the stages are those after it; or none stands there, and they stay.
abbrev pub Passes : List Stage → List Stage → List ℕ → Option ℕ → Type 0
Passes old new bytes None = (new ≡ old) × ((a : Arrival) (n : ℕ) → record_front old bytes ≡ Whole a n → ⊥)
Passes old new bytes (Some n) = (a : Arrival) × (record_front old bytes ≡ Whole a n) × (new ≡ stages_after a old) × (0 < n) × (n ≤ length bytes)
