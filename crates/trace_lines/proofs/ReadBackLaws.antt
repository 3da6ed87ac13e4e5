-- What is traced reads back.
use Rattle.std.proofs.Common.{◌≡◌, ℕ, ◌<◌, true, false, cond, List, [], ◌∷◌, ◌++◌, map, set, Ok, Err, refl, sym, ap, subst, ◌∙◌, append-nil}
use Rattle.std.specs.declared.result.Result.{Result}
use Rattle.std.specs.List.{flat_map, AllByRecursion}
use Rattle.std.proofs.lemmas.List.{map-set}
use Rattle.std.proofs.Math.ListN.{get_or-map}
use Rattle.std.proofs.Math.Seq.{map-set_same}
use Rattle.channel_frame.specs.FrameSpelling.{spelling}
use Rattle.frame_lines.specs.TextLines.{lines_of, passes}
use Rattle.frame_lines.specs.TextReading.{frame_of, next_after}
use Rattle.session_mux.specs.declared.sessions.Stage.{Stage}
use Rattle.session_mux.specs.declared.sessions.Stage.TheVariants as stage
use Rattle.session_mux.specs.Arrivals.{Arrival, Open, Data, Close, record_bytes, no_sessions, stage_at, AreAllowed, records_of, tail_of}
use Rattle.session_mux.proofs.RecordReadings.{has_one_reading}
use Rattle.trace_lines.specs.declared.said.Said.{Said}
use Rattle.trace_lines.specs.declared.said.Said.TheVariants.{Opens, Sends, Closes}
use Rattle.trace_lines.specs.declared.said.TraceLine.{TraceLine}
use Rattle.trace_lines.specs.declared.said.TraceCause.{TraceCause}
use Rattle.trace_lines.specs.declared.seats.Seat.{Seat}
use Rattle.trace_lines.specs.declared.seats.Seat.TheVariants.{Unopened, Opened, Closed}
use Rattle.trace_lines.specs.TraceWords.{traced_by}
use Rattle.trace_lines.specs.SessionActs.{Act, Opening, Sending, Closing, no_seats, seat_at, turned, with_seat, done_by, and_then_acts, acts_from, acts_said}
use Rattle.trace_lines.specs.ActRecords.{pieces, records_for, records_said, bytes_traced}
use Rattle.trace_lines.proofs.PieceLaws.{IsShort, pieces_short}
use Rattle.trace_lines.proofs.TurnLaws.{SaidFits, traced_fits, bytes_by_acts}

-- ---- where a line leads

-- a line that does something says something, and its session moves on
pub record Turn (seats : List Seat) (r : Result TraceLine TraceCause) (act : Act) (now : List Seat) : Type 0 where
  pub line : TraceLine
  pub seat : Seat
  pub says : r ≡ Ok line
  pub turned : turned line.session line.said (seat_at seats line.session) ≡ Ok (act, seat)
  pub now_is : set seats line.session seat ≡ now

abbrev ok_turn : Act → Seat → Result (Act × Seat) TraceCause
ok_turn act seat = Ok (act, seat)

-- the parts of a turn; of none this one
abbrev pub first_of : {A B E : Type 0} → A → Result (A × B) E → A
first_of a (Err e) = a
first_of a (Ok pair) = pair.0

abbrev pub second_of : {A B E : Type 0} → B → Result (A × B) E → B
second_of b (Err e) = b
second_of b (Ok pair) = pair.1

seat_moved : (seats now : List Seat) (s : ℕ) (turn : Result (Act × Seat) TraceCause) (act : Act) → with_seat seats s turn ≡ Ok (act, now)
    → (seat : Seat) × (turn ≡ Ok (act, seat)) × (set seats s seat ≡ now)
seat_moved seats now s (Err cause) act e = absurd cc
seat_moved seats now s (Ok turn) act e =
    (turn.1, ap (λ (a : Act). ok_turn a turn.1) (ap (first_of act) e), ap (second_of now) e)

pub turn_of : (seats now : List Seat) (r : Result TraceLine TraceCause) (act : Act) → done_by seats r ≡ Ok (act, now) → Turn seats r act now
turn_of seats now (Err cause) act e = absurd cc
turn_of seats now (Ok line) act e =
    let moved = seat_moved seats now line.session (turned line.session line.said (seat_at seats line.session)) act e in
    record { line = line; seat = moved.0; says = refl; turned = moved.1; now_is = moved.2 }

-- ---- stages

abbrev pub stage_of : Seat → Stage
stage_of Unopened = stage.Unopened
stage_of (Opened next) = stage.Opened
stage_of Closed = stage.Closed

stage_is : (seats : List Seat) (s : ℕ) (seat : Seat) → seat_at seats s ≡ seat → stage_at (map stage_of seats) s ≡ stage_of seat
stage_is seats s seat is = get_or-map stage_of seats s Unopened ∙ ap stage_of is

data_allowed : (stages : List Stage) (s : ℕ) (ps : List (List ℕ)) (rest : List Arrival) → s < 256 → AllByRecursion IsShort ps → stage_at stages s ≡ stage.Opened
    → AreAllowed stages rest → AreAllowed stages (map (Data s) ps ++ rest)
data_allowed stages s [] rest low short stands later = later
data_allowed stages s (p ∷ ps) rest low short stands later = ((low, short.0, stands), data_allowed stages s ps rest low short.1 stands later)

act_allowed : (seats : List Seat) (s : ℕ) (said : Said) (seat then : Seat) (act : Act) (rest : List Arrival) → s < 256 → SaidFits said → seat_at seats s ≡ seat
    → turned s said seat ≡ Ok (act, then) → AreAllowed (map stage_of (set seats s then)) rest → AreAllowed (map stage_of seats) (records_for act ++ rest)
act_allowed seats s (Opens who) Unopened then act rest low fits stands e later =
    let same : Opening s who ≡ act = ap (first_of act) e in
    let moved : then ≡ Opened 1 = sym (ap (second_of then) e) in
    let after : AreAllowed (set (map stage_of seats) s stage.Opened) rest =
    subst (λ (stages : List Stage). AreAllowed stages rest) (ap (λ (x : Seat). map stage_of (set seats s x)) moved ∙ map-set stage_of seats s (Opened 1)) later
    in
    subst (λ (a : Act). AreAllowed (map stage_of seats) (records_for a ++ rest)) same ((low, fits, stage_is seats s Unopened stands), after)
act_allowed seats s (Opens who) (Opened next) then act rest low fits stands e later = absurd cc
act_allowed seats s (Opens who) Closed then act rest low fits stands e later = absurd cc
act_allowed seats s (Sends line) Unopened then act rest low fits stands e later = absurd cc
act_allowed seats s (Sends line) (Opened next) then act rest low fits stands e later =
    let same : Sending s (frame_of next line) ≡ act = ap (first_of act) e in
    let moved : then ≡ Opened (next_after (frame_of next line).sequence) = sym (ap (second_of then) e) in
    let stays : map stage_of (set seats s then) ≡ map stage_of seats =
    map-set_same stage_of seats s then Unopened (ap stage_of moved ∙ sym (ap stage_of stands))
    in
    let after : AreAllowed (map stage_of seats) rest = subst (λ (stages : List Stage). AreAllowed stages rest) stays later in
    let ps : List (List ℕ) = pieces (spelling (frame_of next line)) in
    subst (λ (a : Act). AreAllowed (map stage_of seats) (records_for a ++ rest)) same
    (data_allowed (map stage_of seats) s ps rest low (pieces_short (spelling (frame_of next line))) (stage_is seats s (Opened next) stands) after)
act_allowed seats s (Sends line) Closed then act rest low fits stands e later = absurd cc
act_allowed seats s Closes Unopened then act rest low fits stands e later = absurd cc
act_allowed seats s Closes (Opened next) then act rest low fits stands e later =
    let same : Closing s ≡ act = ap (first_of act) e in
    let moved : then ≡ Closed = sym (ap (second_of then) e) in
    let after : AreAllowed (set (map stage_of seats) s stage.Closed) rest =
    subst (λ (stages : List Stage). AreAllowed stages rest) (ap (λ (x : Seat). map stage_of (set seats s x)) moved ∙ map-set stage_of seats s Closed) later
    in
    subst (λ (a : Act). AreAllowed (map stage_of seats) (records_for a ++ rest)) same ((low, stage_is seats s (Opened next) stands), after)
act_allowed seats s Closes Closed then act rest low fits stands e later = absurd cc

allowed_at : (seats : List Seat) (line : List ℕ) (does : Result (Act × List Seat) TraceCause) (rest : List Seat → List Act) → done_by seats (traced_by line) ≡ does
    → ((now : List Seat) → AreAllowed (map stage_of now) (flat_map records_for (rest now)))
    → AreAllowed (map stage_of seats) (flat_map records_for (and_then_acts does rest))
allowed_at seats line (Err cause) rest is later = tt
allowed_at seats line (Ok does) rest is later =
    let turn = turn_of seats does.1 (traced_by line) does.0 is in
    let fits = traced_fits line turn.line turn.says in
    act_allowed seats turn.line.session turn.line.said (seat_at seats turn.line.session) turn.seat does.0 (flat_map records_for (rest does.1)) fits.session fits.said refl turn.turned
    (subst (λ (now : List Seat). AreAllowed (map stage_of now) (flat_map records_for (rest does.1))) (sym turn.now_is) (later does.1))

allowed_from : (lines : List (List ℕ)) (seats : List Seat) → AreAllowed (map stage_of seats) (flat_map records_for (acts_from lines seats))
allowed_from [] seats = tt
allowed_from (line ∷ lines) seats =
    elim (passes line) as (λ t. AreAllowed (map stage_of seats) (flat_map records_for (cond t (acts_from lines seats) (and_then_acts (done_by seats (traced_by line)) (acts_from lines))))) [
      | true ↦ allowed_from lines seats
      | false ↦ allowed_at seats line (done_by seats (traced_by line)) (acts_from lines) refl (λ now. allowed_from lines now)
    ]

-- each record of a text may come where it stands
pub records_allowed : (text : List ℕ) → AreAllowed no_sessions (records_said text)
records_allowed text = allowed_from (lines_of text) no_seats

-- ---- the reading

nothing_spelled : (a : Arrival) (more : List ℕ) → [] ≡ record_bytes a ++ more → ⊥
nothing_spelled (Open s who) more e = cc
nothing_spelled (Data s bytes) more e = cc
nothing_spelled (Close s) more e = cc

pub records_back : (text : List ℕ) → (records_of no_sessions (bytes_traced text) ≡ records_said text) × (tail_of no_sessions (bytes_traced text) ≡ [])
records_back text =
    has_one_reading no_sessions (bytes_traced text) (records_said text) [] tt (record {
      text = bytes_by_acts (acts_said text) ∙ sym (append-nil (flat_map record_bytes (records_said text)));
      each = records_allowed text;
      tail_is = λ a more allowed e. nothing_spelled a more e;
    })
