-- What an input gives: the events of its used bytes in order, and what is left of its sessions at their end
-- (docs/FORMATS.md, "Traces and tagged replies"). Plain input is the form whose bytes are all session 0's.
use Rattle.std.specs.Prelude.{ℕ, zero, suc, nat_lt, Bool, ◌||◌, List, [], ◌∷◌, length, map, set, get_or, replicate}
use Rattle.std.specs.List.{list_any, range_with_len}
use Rattle.channel_frame.specs.declared.frames.Frame.{Frame}
use Rattle.ctrl_model.specs.declared.kinds.Who.{Who}
use Rattle.session_mux.specs.declared.events.Event.{Event}
use Rattle.session_mux.specs.declared.events.Event.TheVariants as event
use Rattle.session_mux.specs.declared.sessions.Form.{Form}
use Rattle.session_mux.specs.Arrivals.{session_numbers}
pub use Rattle.session_mux.specs.Completion.{is_fault}
use Rattle.session_mux.specs.Completion.{Standing, start_of, fed, events_of, end_of, session_at, sender_of, frames_by, rest_len, begins_bad}

-- The events of the used bytes.
abbrev pub events_in : Form → List ℕ → List Event
events_in form used = events_of (fed (start_of form) used)

-- Where the sessions stand at the end of the used bytes.
abbrev pub end_in : Form → List ℕ → Standing
end_in form used = end_of (fed (start_of form) used)

-- Who has each session at the start.
abbrev pub senders_in : Form → List Who
senders_in form = map sender_of (start_of form).sessions

-- The frames that arrive by the first events of an input, each with its session and who sent it.
abbrev pub frames_in : Form → List Event → List (ℕ × (Who × Frame))
frames_in form events = frames_by events (senders_in form)

-- ---- faults

-- Whether an input has a fault: that of a session, or a bad record.
abbrev pub is_bad_input : Form → List ℕ → Bool
is_bad_input form used = list_any is_fault (events_in form used) || begins_bad (end_in form used)

-- ---- what is left

-- A number of each session, 0 at first.
abbrev pub no_counts : List ℕ
no_counts = replicate session_numbers 0

-- The numbers of all sessions.
abbrev pub all_sessions : List ℕ
all_sessions = range_with_len 0 session_numbers

-- The rest with which each session was closed, once an event was given.
abbrev pub rests_after : Event → List ℕ → List ℕ
rests_after (event.Opened s who) rests = rests
rests_after (event.Arrived s frame) rests = rests
rests_after (event.Ended s fault at) rests = rests
rests_after (event.Closed s rest) rests = set rests s rest

-- And once some events were given.
abbrev pub rests_along : List Event → List ℕ → List ℕ
rests_along [] rests = rests
rests_along (e ∷ events) rests = rests_along events (rests_after e rests)

-- The rest with which each session of an input was closed; 0 where it was not closed.
abbrev pub closed_rests : Form → List ℕ → List ℕ
closed_rests form used = rests_along (events_in form used) no_counts

-- What is held of an unfinished frame, or, where nothing is, what was left when the session was closed.
abbrev pub held_or_closed : ℕ → ℕ → ℕ
held_or_closed zero closed = closed
held_or_closed (suc held) closed = suc held

-- How many bytes of an unfinished frame are left of a session at the end: only an open session holds some, and only a closed one was
-- closed with some.
abbrev pub rest_at : Standing → List ℕ → ℕ → ℕ
rest_at st closed s = held_or_closed (rest_len (session_at st.sessions s)) (get_or closed s 0)

-- Whether bytes are left at the end, of a session or of the trace itself.
abbrev pub leaves_some : Standing → List ℕ → Bool
leaves_some st closed = list_any (λ s. nat_lt 0 (rest_at st closed s)) all_sessions || nat_lt 0 (length st.input)

-- Whether an input has a rest: an unfinished frame of a session, or an unfinished record.
abbrev pub has_rest : Form → List ℕ → Bool
has_rest form used = leaves_some (end_in form used) (closed_rests form used)
