-- What is said of a session, put down.
use Rattle.std.proofs.Common.{◌≡◌, ℕ, false, List, ◌++◌, set, Ok, Err, refl, sym, ap, ◌∙◌, append-nil}
use Rattle.std.specs.declared.result.Result.{Result}
use Rattle.std.specs.List.{flat_map}
use Rattle.ctrl_model.specs.declared.kinds.Who.{Who}
use Rattle.channel_frame.specs.FrameSpelling.{spelling}
use Rattle.frame_lines.specs.declared.lines.Line.{Line}
use Rattle.frame_lines.specs.TextLines.{passes}
use Rattle.frame_lines.specs.TextReading.{frame_of, next_after}
use Rattle.session_mux.specs.Arrivals.{Open, Close, record_bytes}
use Rattle.trace_lines.specs.declared.said.Said.TheVariants.{Opens, Sends, Closes}
use Rattle.trace_lines.specs.declared.said.TraceLine.{TraceLine}
use Rattle.trace_lines.specs.declared.said.TraceCause.{TraceCause}
use Rattle.trace_lines.specs.declared.said.TraceCause.TheVariants.{OpenedBefore, NotOpen}
use Rattle.trace_lines.specs.declared.seats.Seat.{Seat}
use Rattle.trace_lines.specs.declared.seats.Seat.TheVariants.{Unopened, Opened, Closed}
use Rattle.trace_lines.specs.TraceWords.{traced_by}
use Rattle.trace_lines.specs.SessionActs.{Act, Opening, Sending, Closing, seat_at, turned}
use Rattle.trace_lines.specs.ActRecords.{data_records}
use Rattle.trace_lines.specs.TraceTurns.{TakesSaid, GoesOn, EndsAt}
use Rattle.trace_lines.proofs.TurnLaws.{does, ends, done_at}

-- what leaves a session open, where this sequence number comes next
abbrev sends_on : Act → ℕ → Result (Act × Seat) TraceCause
sends_on act next = Ok (act, Opened next)

pub takes_open : (s : ℕ) (who : Who) (seat : Seat) (before now : List ℕ) → seat ≡ Unopened → now ≡ before ++ record_bytes (Open s who)
    → TakesSaid s (Opens who) seat before now (Ok (Opened 1))
takes_open s who seat before now is put =
    (Opening s who, ap (turned s (Opens who)) is, put ∙ ap (λ (b : List ℕ). before ++ b) (sym (append-nil (record_bytes (Open s who)))))

pub refuses_open : (s : ℕ) (who : Who) (seat : Seat) (before : List ℕ) → (seat ≡ Unopened → ⊥) → TakesSaid s (Opens who) seat before before (Err OpenedBefore)
refuses_open s who Unopened before not = absurd (not refl)
refuses_open s who (Opened next) before not = (refl, refl)
refuses_open s who Closed before not = (refl, refl)

pub takes_frame : (s : ℕ) (line : Line) (seat : Seat) (next then : ℕ) (before now bytes : List ℕ) → seat ≡ Opened next → bytes ≡ spelling (frame_of next line)
    → then ≡ next_after (frame_of next line).sequence → now ≡ before ++ flat_map record_bytes (data_records s bytes) → TakesSaid s (Sends line) seat before now (Ok (Opened then))
takes_frame s line seat next then before now bytes is spells after put = (
  Sending s (frame_of next line),
  ap (turned s (Sends line)) is ∙ ap (sends_on (Sending s (frame_of next line))) (sym after),
  put ∙ ap (λ (b : List ℕ). before ++ flat_map record_bytes (data_records s b)) spells,
)

pub refuses_frame : (s : ℕ) (line : Line) (seat : Seat) (before : List ℕ) → ((next : ℕ) → seat ≡ Opened next → ⊥) → TakesSaid s (Sends line) seat before before (Err NotOpen)
refuses_frame s line Unopened before not = (refl, refl)
refuses_frame s line (Opened next) before not = absurd (not next refl)
refuses_frame s line Closed before not = (refl, refl)

pub takes_close : (s : ℕ) (seat : Seat) (next : ℕ) (before now : List ℕ) → seat ≡ Opened next → now ≡ before ++ record_bytes (Close s) → TakesSaid s Closes seat before now (Ok Closed)
takes_close s seat next before now is put =
    (Closing s, ap (turned s Closes) is, put ∙ ap (λ (b : List ℕ). before ++ b) (sym (append-nil (record_bytes (Close s)))))

pub refuses_close : (s : ℕ) (seat : Seat) (before : List ℕ) → ((next : ℕ) → seat ≡ Opened next → ⊥) → TakesSaid s Closes seat before before (Err NotOpen)
refuses_close s Unopened before not = (refl, refl)
refuses_close s (Opened next) before not = absurd (not next refl)
refuses_close s Closed before not = (refl, refl)

-- ---- a line

pub line_taken : (seats : List Seat) (line before now : List ℕ) (l : TraceLine) (seat : Seat) → passes line ≡ false → traced_by line ≡ Ok l
    → TakesSaid l.session l.said (seat_at seats l.session) before now (Ok seat) → GoesOn seats (set seats l.session seat) line before now
line_taken seats line before now l seat passes_not says taken =
    does seats (set seats l.session seat) line before now taken.0 passes_not (done_at seats line l (Ok (taken.0, seat)) says taken.1) taken.2

pub line_refused : (seats : List Seat) (line before now : List ℕ) (l : TraceLine) (cause : TraceCause) → passes line ≡ false → traced_by line ≡ Ok l
    → TakesSaid l.session l.said (seat_at seats l.session) before now (Err cause) → EndsAt seats line before now cause
line_refused seats line before now l cause passes_not says refused =
    ends seats line before now cause passes_not (done_at seats line l (Err cause) says refused.0) refused.1
