-- The events of many sessions in the order in which their bytes come, and what is left at the end (docs/FORMATS.md, "Traces and tagged replies").
-- A frame is completed by the record that brings its last byte. Each session's frames are those of all its bytes, joined.
use Rattle.std.specs.Prelude.{◌≡◌, ℕ, suc, ◌+◌, ◌-◌, Bool, true, false, List, [], ◌∷◌, ◌++◌, length, map, drop, set, get_or, replicate, None, Some}
use Rattle.std.specs.declared.option.Option.{Option}
use Rattle.ctrl_model.specs.declared.kinds.Who.{Who}
use Rattle.ctrl_model.specs.declared.kinds.Who.TheVariants.{Admin}
use Rattle.channel_frame.specs.declared.frames.Frame.{Frame}
use Rattle.channel_frame.specs.declared.frames.FrameFault.{FrameFault}
use Rattle.channel_frame.specs.SessionBytes.{SessionBytes, no_bytes, with_more, frames_held, settled, fault_held}
use Rattle.frame_stream.specs.StreamSteps.{fault_number}
use Rattle.session_mux.specs.declared.sessions.Session.{Session}
use Rattle.session_mux.specs.declared.sessions.Session.TheVariants as session
use Rattle.session_mux.specs.declared.sessions.Form.{Form}
use Rattle.session_mux.specs.declared.sessions.Form.TheVariants.{Plain, Trace}
use Rattle.session_mux.specs.declared.sessions.Stage.{Stage}
use Rattle.session_mux.specs.declared.sessions.Stage.TheVariants.{Unopened, Opened, Closed}
use Rattle.session_mux.specs.declared.events.Event.{Event}
use Rattle.session_mux.specs.declared.events.Event.TheVariants as event
use Rattle.session_mux.specs.Arrivals.{session_numbers, Arrival, Open, Data, Close, RecordFront, record_front, records_of, tail_of, is_bad}

-- Where many sessions stand: the form of the input, the input bytes that are held, how many came before them, and each
-- session number's session, which is not opened, open with its role and its bytes, or closed.
pub record Standing : Type 0 where
  pub form : Form
  pub input : List ℕ
  pub before : ℕ
  pub sessions : List Session

-- The session of a number.
abbrev pub session_at : List Session → ℕ → Session
session_at sessions s = get_or sessions s session.Unopened

-- ---- the start, and more input

-- No session is opened.
abbrev pub unopened : List Session
unopened = replicate session_numbers session.Unopened

-- The start of a form: in plain input all bytes are session 0's, which is open as an administrator's; in a trace no session is open.
abbrev pub start_of : Form → Standing
start_of Plain = record { form = Plain; input = []; before = 0; sessions = set unopened 0 (session.Open Admin no_bytes) }
start_of Trace = record { form = Trace; input = []; before = 0; sessions = unopened }

-- Where they stand once more input has come.
abbrev pub fed : Standing → List ℕ → Standing
fed st more = record { form = st.form; input = st.input ++ more; before = st.before; sessions = st.sessions }

-- ---- one session

-- The stage of a session, as records are judged by it.
abbrev pub stage_of : Session → Stage
stage_of session.Unopened = Unopened
stage_of (session.Open who bytes) = Opened
stage_of session.Closed = Closed

-- The session once bytes of it have come; only an open one takes them.
abbrev pub with_data : Session → List ℕ → Session
with_data session.Unopened more = session.Unopened
with_data (session.Open who bytes) more = session.Open who (with_more bytes more)
with_data session.Closed more = session.Closed

-- The session once every frame that is whole in it was given, and the fault behind these, if there is one, was told.
abbrev pub settled_session : Session → Session
settled_session session.Unopened = session.Unopened
settled_session (session.Open who bytes) = session.Open who (settled bytes)
settled_session session.Closed = session.Closed

-- The event of a fault and its place.
abbrev pub ended : ℕ → Option (FrameFault × ℕ) → List Event
ended s None = []
ended s (Some f) = event.Ended s (fault_number f.0) f.1 ∷ []

-- The events of a session's bytes: its frames in order, and the fault behind them, if there is one.
abbrev pub bytes_events : ℕ → SessionBytes → List Event
bytes_events s bytes = map (event.Arrived s) (frames_held bytes) ++ ended s (fault_held bytes)

-- The events of the bytes that a session has.
abbrev pub session_events : ℕ → Session → List Event
session_events s session.Unopened = []
session_events s (session.Open who bytes) = bytes_events s bytes
session_events s session.Closed = []

-- How many bytes of an unfinished frame a session has, behind its frames; none after a fault, and none where it is not open.
abbrev pub rest_len : Session → ℕ
rest_len session.Unopened = 0
rest_len (session.Open who bytes) = length (settled bytes).held
rest_len session.Closed = 0

-- How many bytes are held where this fault was met, or none was.
abbrev pub len_unless : Option FrameFault → List ℕ → ℕ
len_unless None held = length held
len_unless (Some e) held = 0

-- How many bytes a session's bytes hold; none after a fault.
abbrev pub bytes_len : SessionBytes → ℕ
bytes_len bytes = len_unless bytes.fault bytes.held

-- How many bytes a session holds; none after a fault, and none where it is not open.
abbrev pub held_len : Session → ℕ
held_len session.Unopened = 0
held_len (session.Open who bytes) = bytes_len bytes
held_len session.Closed = 0

-- The fault that a session has met, where it is open and has met one.
abbrev pub fault_met : Session → Option FrameFault
fault_met session.Unopened = None
fault_met (session.Open who bytes) = bytes.fault
fault_met session.Closed = None

-- Whether an event is a session's fault.
abbrev pub is_fault : Event → Bool
is_fault (event.Opened s who) = false
is_fault (event.Arrived s frame) = false
is_fault (event.Ended s fault at) = true
is_fault (event.Closed s rest) = false

-- ---- what the records do

-- The sessions once a record was read. Bytes of a session are joined to those that it had.
abbrev pub sessions_after : Arrival → List Session → List Session
sessions_after (Open s who) sessions = set sessions s (session.Open who no_bytes)
sessions_after (Data s bytes) sessions = set sessions s (with_data (session_at sessions s) bytes)
sessions_after (Close s) sessions = set sessions s session.Closed

-- The events that a record decides: of data, those that all the session's bytes up to there have and that its bytes before it had not.
abbrev pub events_by : Arrival → List Session → List Event
events_by (Open s who) sessions = event.Opened s who ∷ []
events_by (Data s bytes) sessions =
    drop (length (session_events s (session_at sessions s))) (session_events s (with_data (session_at sessions s) bytes))
events_by (Close s) sessions = event.Closed s (rest_len (session_at sessions s)) ∷ []

-- The sessions once some records were read.
abbrev pub sessions_along : List Session → List Arrival → List Session
sessions_along sessions [] = sessions
sessions_along sessions (a ∷ arrivals) = sessions_along (sessions_after a sessions) arrivals

-- The events of some records in order.
abbrev pub events_along : List Session → List Arrival → List Event
events_along sessions [] = []
events_along sessions (a ∷ arrivals) = events_by a sessions ++ events_along (sessions_after a sessions) arrivals

-- ---- the whole of a standing

-- The events of the bytes that sessions have already, in the order of their numbers, the first of which is this one.
abbrev pub events_held : ℕ → List Session → List Event
events_held s [] = []
events_held s (x ∷ sessions) = session_events s x ++ events_held (suc s) sessions

-- The records of the input that is held: in plain input all of it is data of session 0.
abbrev pub arrivals_in : Form → List Session → List ℕ → List Arrival
arrivals_in Plain sessions input = Data 0 input ∷ []
arrivals_in Trace sessions input = records_of (map stage_of sessions) input

-- The tail of the input that is held: plain input has none.
abbrev pub tail_in : Form → List Session → List ℕ → List ℕ
tail_in Plain sessions input = []
tail_in Trace sessions input = tail_of (map stage_of sessions) input

-- The records that a standing still gives.
abbrev pub arrivals_of : Standing → List Arrival
arrivals_of st = arrivals_in st.form st.sessions st.input

-- The tail of its input.
abbrev pub tail_left : Standing → List ℕ
tail_left st = tail_in st.form st.sessions st.input

-- The events that it still gives. What lies wholly in what a session holds comes before all of the input.
abbrev pub events_of : Standing → List Event
events_of st = events_held 0 st.sessions ++ events_along st.sessions (arrivals_of st)

-- Where all stand at the end of the input: the tail and its place, and each session with its own unfinished frame.
abbrev pub end_of : Standing → Standing
end_of st =
    record {
      form = st.form;
      input = tail_left st;
      before = st.before + (length st.input - length (tail_left st));
      sessions = map settled_session (sessions_along st.sessions (arrivals_of st));
    }

-- Whether a front is a bad record's, which only a trace has.
abbrev pub is_bad_in : Form → RecordFront → Bool
is_bad_in Plain front = false
is_bad_in Trace front = is_bad front

-- Whether the input of a standing begins with a bad record.
abbrev pub begins_bad : Standing → Bool
begins_bad st = is_bad_in st.form (record_front (map stage_of st.sessions) st.input)

-- Going on from one standing to another gives these events first, then those of the other, and comes to the same end, whatever
-- input comes from then on.
pub record GoesTo (old new : Standing) (first : List Event) : Type 0 where
  pub events : (more : List ℕ) → events_of (fed old more) ≡ first ++ events_of (fed new more)
  pub ends : (more : List ℕ) → end_of (fed old more) ≡ end_of (fed new more)

-- The input goes no further than a bad record at this place, whatever comes.
pub record IsBadAt (st : Standing) (at : ℕ) : Type 0 where
  pub none : (more : List ℕ) → events_of (fed st more) ≡ []
  pub bad : (more : List ℕ) → begins_bad (end_of (fed st more)) ≡ true
  pub place : (more : List ℕ) → (end_of (fed st more)).before ≡ at

-- It gives no event, and its tail is no bad record.
pub record IsUnfinished (st : Standing) : Type 0 where
  pub none : events_of st ≡ []
  pub good : begins_bad (end_of st) ≡ false

-- ---- the frames of an input, each with its session and who sent it

-- Who has a session.
abbrev pub sender_of : Session → Who
sender_of session.Unopened = Admin
sender_of (session.Open who bytes) = who
sender_of session.Closed = Admin

-- Who has a session once an event was given.
abbrev pub senders_after : Event → List Who → List Who
senders_after (event.Opened s who) senders = set senders s who
senders_after (event.Arrived s frame) senders = senders
senders_after (event.Ended s fault at) senders = senders
senders_after (event.Closed s rest) senders = senders

-- The frame that arrived by an event, with its session and who sent it.
abbrev pub frame_by : Event → List Who → List (ℕ × (Who × Frame))
frame_by (event.Opened s who) senders = []
frame_by (event.Arrived s frame) senders = (s, (get_or senders s Admin, frame)) ∷ []
frame_by (event.Ended s fault at) senders = []
frame_by (event.Closed s rest) senders = []

-- The frames that arrived by some events, in order.
abbrev pub frames_by : List Event → List Who → List (ℕ × (Who × Frame))
frames_by [] senders = []
frames_by (e ∷ events) senders = frame_by e senders ++ frames_by events (senders_after e senders)

-- The frames that an input of this form completes, in the order of their completion.
abbrev pub completed : Form → List ℕ → List (ℕ × (Who × Frame))
completed form input = frames_by (events_of (fed (start_of form) input)) (map sender_of (start_of form).sessions)
