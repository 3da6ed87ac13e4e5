-- What the lines of a trace do in order, where each session stands, and the first line that is at fault
-- (docs/FORMATS.md, "Lines of traces").
use Rattle.std.specs.Prelude.{ℕ, ◌+◌, if◌then◌else◌, List, [], ◌∷◌, set, get_or, replicate, None, Some, Ok, Err}
use Rattle.std.specs.declared.option.Option.{Option}
use Rattle.std.specs.declared.result.Result.{Result}
use Rattle.ctrl_model.specs.declared.kinds.Who.{Who}
use Rattle.channel_frame.specs.declared.frames.Frame.{Frame}
use Rattle.frame_lines.specs.TextLines.{lines_of, passes}
use Rattle.frame_lines.specs.TextReading.{frame_of, next_after}
use Rattle.session_mux.specs.Arrivals.{session_numbers}
use Rattle.trace_lines.specs.declared.said.Said.{Said}
use Rattle.trace_lines.specs.declared.said.Said.TheVariants.{Opens, Sends, Closes}
use Rattle.trace_lines.specs.declared.said.TraceLine.{TraceLine}
use Rattle.trace_lines.specs.declared.said.TraceCause.{TraceCause}
use Rattle.trace_lines.specs.declared.said.TraceCause.TheVariants.{OpenedBefore, NotOpen}
use Rattle.trace_lines.specs.declared.said.TraceFault.{TraceFault}
use Rattle.trace_lines.specs.declared.seats.Seat.{Seat}
use Rattle.trace_lines.specs.declared.seats.Seat.TheVariants.{Unopened, Opened, Closed}
use Rattle.trace_lines.specs.TraceWords.{traced_by}

-- What a line does: a session is opened by someone, sends a frame, or is closed.
pub data Act : Type 0 where
  Opening : ℕ → Who → Act
  Sending : ℕ → Frame → Act
  Closing : ℕ → Act

-- No session is opened.
abbrev pub no_seats : List Seat
no_seats = replicate session_numbers Unopened

-- Where a session stands.
abbrev pub seat_at : List Seat → ℕ → Seat
seat_at seats s = get_or seats s Unopened

-- What is said of a session does this, and leaves the session there: a number is opened once, and its first frame has the sequence
-- number 1; only an open session sends and is closed.
abbrev pub turned : ℕ → Said → Seat → Result (Act × Seat) TraceCause
turned s (Opens who) Unopened = Ok (Opening s who, Opened 1)
turned s (Opens who) (Opened next) = Err OpenedBefore
turned s (Opens who) Closed = Err OpenedBefore
turned s (Sends line) Unopened = Err NotOpen
turned s (Sends line) (Opened next) = Ok (Sending s (frame_of next line), Opened (next_after (frame_of next line).sequence))
turned s (Sends line) Closed = Err NotOpen
turned s Closes Unopened = Err NotOpen
turned s Closes (Opened next) = Ok (Closing s, Closed)
turned s Closes Closed = Err NotOpen

-- The same, with where all sessions stand then.
abbrev pub with_seat : List Seat → ℕ → Result (Act × Seat) TraceCause → Result (Act × List Seat) TraceCause
with_seat seats s (Err cause) = Err cause
with_seat seats s (Ok turn) = Ok (turn.0, set seats s turn.1)

-- What a line does that says this, where the sessions stand so.
abbrev pub done_by : List Seat → Result TraceLine TraceCause → Result (Act × List Seat) TraceCause
done_by seats (Err cause) = Err cause
done_by seats (Ok line) = with_seat seats line.session (turned line.session line.said (seat_at seats line.session))

-- What a line does, and what those behind it do; nothing from a line on that is at fault.
abbrev pub and_then_acts : Result (Act × List Seat) TraceCause → (List Seat → List Act) → List Act
and_then_acts (Err cause) rest = []
and_then_acts (Ok turn) rest = turn.0 ∷ rest turn.1

-- What some lines do in order, up to one that is at fault, where the sessions stand so.
abbrev pub acts_from : List (List ℕ) → List Seat → List Act
acts_from [] seats = []
acts_from (line ∷ lines) seats =
    if passes line then acts_from lines seats else and_then_acts (done_by seats (traced_by line)) (acts_from lines)

-- What the lines of a text do. No session is open before them.
abbrev pub acts_said : List ℕ → List Act
acts_said text = acts_from (lines_of text) no_seats

-- The fault of a line with its number, or that of the lines behind it.
abbrev pub or_fault : ℕ → Result (Act × List Seat) TraceCause → (List Seat → Option TraceFault) → Option TraceFault
or_fault number (Err cause) rest = Some (record { line = number; cause = cause })
or_fault number (Ok turn) rest = rest turn.1

-- The first line that neither passes nor does anything, where the lines are counted from this number.
abbrev pub fault_from : List (List ℕ) → List Seat → ℕ → Option TraceFault
fault_from [] seats number = None
fault_from (line ∷ lines) seats number =
    if passes line then fault_from lines seats (number + 1)
    else or_fault number (done_by seats (traced_by line)) (λ now. fault_from lines now (number + 1))

-- The fault of a text, if it has one. Its lines are counted from 1, those that pass among them.
abbrev pub fault_traced : List ℕ → Option TraceFault
fault_traced text = fault_from (lines_of text) no_seats 1
