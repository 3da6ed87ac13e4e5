-- How far a run reads its input: until it is decided, and never more than a piece behind what it answered (docs/PROMISES.md, "The headline").
use Rattle.std.specs.Prelude.{◌≡◌, ℕ, ◌≤◌, Bool, false, List, ◌++◌, length, take}
use Rattle.std.specs.List.{list_any}
use Rattle.session_mux.specs.declared.events.Event.{Event}
use Rattle.session_mux.specs.declared.sessions.Form.{Form}
use Rattle.session_mux.specs.declared.sessions.Form.TheVariants.{Plain, Trace}
use Rattle.session_mux.specs.Completion.{begins_bad}
use Rattle.run_notes.specs.Inputs.{events_in, end_in, is_fault}

-- Whether an input is decided, so that its reading ends: plain input has a fault, or a bad record is next in a trace.
abbrev pub is_decided : Form → List ℕ → Bool
is_decided Plain used = list_any is_fault (events_in Plain used)
is_decided Trace used = begins_bad (end_in Trace used)

-- What was taken is at most a piece, 65,536 bytes, more than bytes that did not decide the input and whose events were all answered. So at
-- most a piece was taken past the byte that decided the first event without an answer, and past the one that decided the input.
pub record StaysNear (form : Form) (most : ℕ) (taken : List ℕ) (answered : List Event) : Type 0 where
  pub first : List ℕ
  pub last : List ℕ
  pub split : first ++ last ≡ taken
  pub piece : length last ≤ 65536
  pub more : List Event
  pub before : events_in form (take most first) ++ more ≡ answered
  pub undecided : is_decided form (take most first) ≡ false
