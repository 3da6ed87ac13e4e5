-- Each session sends the frames of its lines.
use Rattle.std.proofs.Common.{◌≡◌, ℕ, zero, suc, ◌<◌, ◌^◌, Bool, true, false, cond, eqb, List, [], ◌∷◌, ◌++◌, map, set, replicate, Ok, Err, refl, sym, ap, subst, ◌∙◌, append_assoc, append-nil, arith}
use Rattle.std.specs.declared.result.Result.{Result}
use Rattle.std.specs.List.{flat_map, AllByRecursion}
use Rattle.std.proofs.lemmas.Grind.{flat_map-append}
use Rattle.channel_frame.specs.declared.frames.Frame.{Frame}
use Rattle.channel_frame.specs.FrameSpelling.{IsFrame, spelling}
use Rattle.channel_frame.specs.StreamReading.{frames_of}
use Rattle.channel_frame.proofs.ReadingLaws.{has_one_reading}
use Rattle.frame_lines.specs.TextLines.{lines_of, passes}
use Rattle.frame_lines.specs.TextReading.{frame_of, next_after}
use Rattle.frame_lines.proofs.FullLaws.{frame_fits, next_fits, reads_alone}
use Rattle.session_mux.specs.Arrivals.{Arrival, Open, Data, Close, no_sessions, AreAllowed, records_of}
use Rattle.session_mux.specs.SessionFrames.{joined, own_frames}
use Rattle.session_mux.specs.Completion.{unopened, events_along}
use Rattle.session_mux.proofs.CompletionLaws.{completes_by}
use Rattle.trace_lines.specs.declared.said.Said.{Said}
use Rattle.trace_lines.specs.declared.said.Said.TheVariants.{Opens, Sends, Closes}
use Rattle.trace_lines.specs.declared.said.TraceCause.{TraceCause}
use Rattle.trace_lines.specs.declared.seats.Seat.{Seat}
use Rattle.trace_lines.specs.declared.seats.Seat.TheVariants.{Unopened, Opened, Closed}
use Rattle.trace_lines.specs.TraceWords.{traced_by}
use Rattle.trace_lines.specs.SessionActs.{Act, Opening, Sending, Closing, no_seats, seat_at, turned, done_by, and_then_acts, acts_from, acts_said}
use Rattle.trace_lines.specs.ActRecords.{pieces, records_for, records_said, bytes_traced, sent_by, frames_sent}
use Rattle.trace_lines.proofs.PieceLaws.{pieces_joined}
use Rattle.trace_lines.proofs.TurnLaws.{SaidFits, traced_fits}
use Rattle.trace_lines.proofs.ReadBackLaws.{first_of, second_of, turn_of, records_allowed, records_back}

-- ---- the bytes of a session

joined_both : (s : ℕ) (first later : List Arrival) → joined s (first ++ later) ≡ joined s first ++ joined s later
joined_both s [] later = refl
joined_both s (Open t who ∷ first) later = joined_both s first later
joined_both s (Data t bytes ∷ first) later =
    ap (λ (b : List ℕ). cond (eqb t s) bytes [] ++ b) (joined_both s first later) ∙ sym (append_assoc (cond (eqb t s) bytes []) (joined s first) (joined s later))
joined_both s (Close t ∷ first) later = joined_both s first later

joined_own : (own : Bool) (s t : ℕ) (ps : List (List ℕ)) → eqb t s ≡ own → joined s (map (Data t) ps) ≡ cond own (flat_map (λ p. p) ps) []
joined_own true s t [] is = refl
joined_own true s t (p ∷ ps) is = ap (λ (b : Bool). cond b p [] ++ joined s (map (Data t) ps)) is ∙ ap (λ (b : List ℕ). p ++ b) (joined_own true s t ps is)
joined_own false s t [] is = refl
joined_own false s t (p ∷ ps) is = ap (λ (b : Bool). cond b p [] ++ joined s (map (Data t) ps)) is ∙ joined_own false s t ps is

sending_joined : (own : Bool) (s t : ℕ) (f : Frame) → eqb t s ≡ own → cond own (flat_map (λ p. p) (pieces (spelling f))) [] ≡ flat_map spelling (cond own (f ∷ []) [])
sending_joined true s t f is = pieces_joined (spelling f) ∙ sym (append-nil (spelling f))
sending_joined false s t f is = refl

act_joined : (s : ℕ) (act : Act) → joined s (records_for act) ≡ flat_map spelling (sent_by s act)
act_joined s (Opening t who) = refl
act_joined s (Sending t f) = joined_own (eqb t s) s t (pieces (spelling f)) refl ∙ sending_joined (eqb t s) s t f refl
act_joined s (Closing t) = refl

acts_joined : (s : ℕ) (acts : List Act) → joined s (flat_map records_for acts) ≡ flat_map spelling (flat_map (sent_by s) acts)
acts_joined s [] = refl
acts_joined s (act ∷ acts) =
    joined_both s (records_for act) (flat_map records_for acts)
    ∙ ap (λ (b : List ℕ). b ++ joined s (flat_map records_for acts)) (act_joined s act)
    ∙ ap (λ (b : List ℕ). flat_map spelling (sent_by s act) ++ b) (acts_joined s acts)
    ∙ sym (flat_map-append spelling (sent_by s act) (flat_map (sent_by s) acts))

-- ---- the frames fit

abbrev SeatFits : Seat → Type 0
SeatFits Unopened = Unit {0}
SeatFits (Opened next) = next < 2 ^ 32
SeatFits Closed = Unit {0}

abbrev SeatsFit : List Seat → Type 0
SeatsFit seats = AllByRecursion SeatFits seats

seats_set : (seats : List Seat) (s : ℕ) (seat : Seat) → SeatsFit seats → SeatFits seat → SeatsFit (set seats s seat)
seats_set [] s seat all fits = tt
seats_set (x ∷ seats) zero seat all fits = (fits, all.1)
seats_set (x ∷ seats) (suc s) seat all fits = (all.0, seats_set seats s seat all.1 fits)

seats_at : (seats : List Seat) (s : ℕ) → SeatsFit seats → SeatFits (seat_at seats s)
seats_at [] s all = tt
seats_at (x ∷ seats) zero all = all.0
seats_at (x ∷ seats) (suc s) all = seats_at seats s all.1

none_opened : (n : ℕ) → SeatsFit (replicate n Unopened)
none_opened zero = tt
none_opened (suc n) = (tt, none_opened n)

sent_fits : (own : Bool) (f : Frame) → IsFrame f → AllByRecursion IsFrame (cond own (f ∷ []) [])
sent_fits true f is = (is, tt)
sent_fits false f is = tt

turn_fits : (s t : ℕ) (said : Said) (seat then : Seat) (act : Act) → SaidFits said → SeatFits seat → turned t said seat ≡ Ok (act, then)
    → AllByRecursion IsFrame (sent_by s act) × SeatFits then
turn_fits s t (Opens who) Unopened then act said stands e =
    let same : Opening t who ≡ act = ap (first_of act) e in
    let moved : Opened 1 ≡ then = ap (second_of then) e in
    (subst (λ (a : Act). AllByRecursion IsFrame (sent_by s a)) same tt, subst SeatFits moved (let low : 1 < 2 ^ 32 = omega arith in low))
turn_fits s t (Opens who) (Opened next) then act said stands e = absurd cc
turn_fits s t (Opens who) Closed then act said stands e = absurd cc
turn_fits s t (Sends line) Unopened then act said stands e = absurd cc
turn_fits s t (Sends line) (Opened next) then act said stands e =
    let f : Frame = frame_of next line in
    let same : Sending t f ≡ act = ap (first_of act) e in
    let moved : Opened (next_after f.sequence) ≡ then = ap (second_of then) e in (
      subst (λ (a : Act). AllByRecursion IsFrame (sent_by s a)) same (sent_fits (eqb t s) f (frame_fits next line stands said).frame),
      subst SeatFits moved (next_fits f.sequence),
    )
turn_fits s t (Sends line) Closed then act said stands e = absurd cc
turn_fits s t Closes Unopened then act said stands e = absurd cc
turn_fits s t Closes (Opened next) then act said stands e =
    let same : Closing t ≡ act = ap (first_of act) e in
    let moved : Closed ≡ then = ap (second_of then) e in
    (subst (λ (a : Act). AllByRecursion IsFrame (sent_by s a)) same tt, subst SeatFits moved tt)
turn_fits s t Closes Closed then act said stands e = absurd cc

both_fit : (first later : List Frame) → AllByRecursion IsFrame first → AllByRecursion IsFrame later → AllByRecursion IsFrame (first ++ later)
both_fit [] later all more = more
both_fit (f ∷ first) later all more = (all.0, both_fit first later all.1 more)

fit_at : (s : ℕ) (seats : List Seat) (line : List ℕ) (does : Result (Act × List Seat) TraceCause) (rest : List Seat → List Act) → SeatsFit seats → done_by seats (traced_by line) ≡ does
    → ((now : List Seat) → SeatsFit now → AllByRecursion IsFrame (flat_map (sent_by s) (rest now)))
    → AllByRecursion IsFrame (flat_map (sent_by s) (and_then_acts does rest))
fit_at s seats line (Err cause) rest all is later = tt
fit_at s seats line (Ok does) rest all is later =
    let turn = turn_of seats does.1 (traced_by line) does.0 is in
    let t : ℕ = turn.line.session in
    let fits = turn_fits s t turn.line.said (seat_at seats t) turn.seat does.0 (traced_fits line turn.line turn.says).said (seats_at seats t all) turn.turned in
    both_fit (sent_by s does.0) (flat_map (sent_by s) (rest does.1)) fits.0 (later does.1 (subst SeatsFit turn.now_is (seats_set seats t turn.seat all fits.1)))

frames_fit : (s : ℕ) (lines : List (List ℕ)) (seats : List Seat) → SeatsFit seats → AllByRecursion IsFrame (flat_map (sent_by s) (acts_from lines seats))
frames_fit s [] seats all = tt
frames_fit s (line ∷ lines) seats all =
    elim (passes line) as (λ t. AllByRecursion IsFrame (flat_map (sent_by s) (cond t (acts_from lines seats) (and_then_acts (done_by seats (traced_by line)) (acts_from lines))))) [
      | true ↦ frames_fit s lines seats all
      | false ↦ fit_at s seats line (done_by seats (traced_by line)) (acts_from lines) all refl (λ now fits. frames_fit s lines now fits)
    ]

-- ---- the frames of a session

pub session_sends : (text : List ℕ) (s : ℕ) → own_frames s (events_along unopened (records_of no_sessions (bytes_traced text))) ≡ frames_sent s text
session_sends text s =
    let records : List Arrival = records_said text in
    let frames : List Frame = frames_sent s text in
    let allowed : AreAllowed no_sessions (records ++ []) = subst (AreAllowed no_sessions) (sym (append-nil records)) (records_allowed text) in
    ap (λ (arrivals : List Arrival). own_frames s (events_along unopened arrivals)) (records_back text).0
    ∙ (completes_by records [] allowed).each s ∙ ap frames_of (acts_joined s (acts_said text))
    ∙ (has_one_reading (flat_map spelling frames) frames [] tt (reads_alone frames (frames_fit s (lines_of text) no_seats (none_opened 256)))).0
