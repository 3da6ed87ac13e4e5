-- What a line of a trace says, and a turn of the reading of a text.
use Rattle.std.proofs.Common.{◌≡◌, ℕ, ◌+◌, ◌<◌, Bool, true, false, cond, ltb, eqb, List, [], ◌∷◌, ◌++◌, length, None, Some, Ok, Err, refl, sym, ap, ◌∙◌, append_assoc}
use Rattle.std.specs.declared.option.Option.{Option}
use Rattle.std.specs.declared.result.Result.{Result}
use Rattle.std.specs.List.{flat_map}
use Rattle.std.specs.Result.{IsOk}
use Rattle.std.specs.Str.{bytes_eq}
use Rattle.std.specs.Prelude.{codes}
use Rattle.std.proofs.lemmas.Bool.{ltb-true}
use Rattle.std.proofs.lemmas.Grind.{flat_map-append}
use Rattle.ctrl_model.specs.declared.kinds.Who.{Who}
use Rattle.ctrl_model.specs.declared.kinds.Who.TheVariants.{Admin, Router, Identity}
use Rattle.ctrl_model.specs.NameForm.{is_name}
use Rattle.frame_lines.specs.declared.lines.Line.{Line}
use Rattle.frame_lines.specs.declared.lines.LineCause.{LineCause}
use Rattle.frame_lines.specs.LineWords.{first_word, behind_word, number_in}
use Rattle.frame_lines.specs.TextLines.{passes}
use Rattle.frame_lines.specs.LineReading.{said_by}
use Rattle.frame_lines.proofs.FullLaws.{LineFits, said_fits}
use Rattle.session_mux.specs.Arrivals.{IsRole, role_at, record_bytes}
use Rattle.trace_lines.specs.declared.said.Said.{Said}
use Rattle.trace_lines.specs.declared.said.Said.TheVariants.{Opens, Sends, Closes}
use Rattle.trace_lines.specs.declared.said.TraceLine.{TraceLine}
use Rattle.trace_lines.specs.declared.said.TraceCause.{TraceCause}
use Rattle.trace_lines.specs.declared.seats.Seat.{Seat}
use Rattle.trace_lines.specs.TraceWords.{as_session, session_in, role_named, role_in, opens, sends, said_of, of_session, with_session, traced_by}
use Rattle.trace_lines.specs.SessionActs.{Act, seat_at, turned, with_seat, done_by, and_then_acts, acts_from, or_fault, fault_from}
use Rattle.trace_lines.specs.ActRecords.{records_for, act_bytes}
use Rattle.trace_lines.specs.TraceTurns.{HasShortBody, GoesOn, EndsAt}

-- ---- what a line says is good

-- a role by the grammar of names, or a line whose frame fits
abbrev pub SaidFits : Said → Type 0
SaidFits (Opens who) = IsRole who
SaidFits (Sends line) = LineFits line
SaidFits Closes = Unit {0}

pub record TraceFits (l : TraceLine) : Type 0 where
  pub session : l.session < 256
  pub said : SaidFits l.said

role_good_at : (p e q n r : Bool) (name : List ℕ) (who : Who) → is_name name ≡ n
    → cond p (cond e (Some Admin) None) (cond q (cond n (Some (Router name)) None) (cond r (cond n (Some (Identity name)) None) None)) ≡ Some who → IsRole who
role_good_at p e q n r name Admin is h = tt
role_good_at true true q n r name (Router other) is h = absurd cc
role_good_at true false q n r name (Router other) is h = absurd cc
role_good_at false e true true r name (Router other) is h = let same : name ≡ other = cc in rw same at is
role_good_at false e true false r name (Router other) is h = absurd cc
role_good_at false e false true true name (Router other) is h = absurd cc
role_good_at false e false false true name (Router other) is h = absurd cc
role_good_at false e false n false name (Router other) is h = absurd cc
role_good_at true true q n r name (Identity other) is h = absurd cc
role_good_at true false q n r name (Identity other) is h = absurd cc
role_good_at false e true true r name (Identity other) is h = absurd cc
role_good_at false e true false r name (Identity other) is h = absurd cc
role_good_at false e false true true name (Identity other) is h = let same : name ≡ other = cc in rw same at is
role_good_at false e false false true name (Identity other) is h = absurd cc
role_good_at false e false n false name (Identity other) is h = absurd cc

role_good : (role : ℕ) (name : List ℕ) (who : Who) → role_at role name ≡ Some who → IsRole who
role_good role name who h = role_good_at (eqb role 0) (eqb (length name) 0) (eqb role 1) (is_name name) (eqb role 2) name who refl h

opens_fits : (role : Option Who) (said : Said) → ((who : Who) → role ≡ Some who → IsRole who) → opens role ≡ Ok said → SaidFits said
opens_fits None said good e = absurd cc
opens_fits (Some who) (Opens other) good e = let same : who ≡ other = cc in good other (ap Some same)
opens_fits (Some who) (Sends line) good e = absurd cc
opens_fits (Some who) Closes good e = absurd cc

sends_fits : (r : Result Line LineCause) (said : Said) → ((line : Line) → r ≡ Ok line → LineFits line) → sends r ≡ Ok said → SaidFits said
sends_fits (Err cause) said good e = absurd cc
sends_fits (Ok line) (Opens who) good e = absurd cc
sends_fits (Ok line) (Sends other) good e = let same : line ≡ other = cc in good other (ap Ok same)
sends_fits (Ok line) Closes good e = absurd cc

closes_fits : (said : Said) → ◌≡◌ {A = Result Said TraceCause} (Ok Closes) (Ok said) → SaidFits said
closes_fits (Opens who) e = absurd cc
closes_fits (Sends line) e = absurd cc
closes_fits Closes e = tt

said_of_fits_at : (p q : Bool) (words : List ℕ) (said : Said)
    → cond {A = Result Said TraceCause} p (opens (role_in (behind_word words))) (cond q (Ok Closes) (sends (said_by words))) ≡ Ok said → SaidFits said
said_of_fits_at true q words said e =
    opens_fits (role_in (behind_word words)) said
    (λ who is. role_good (role_named (first_word (behind_word words))) (behind_word (behind_word words)) who is) e
said_of_fits_at false true words said e = closes_fits said e
said_of_fits_at false false words said e = sends_fits (said_by words) said (λ line is. said_fits words line is) e

said_of_fits : (words : List ℕ) (said : Said) → said_of words ≡ Ok said → SaidFits said
said_of_fits words said e = said_of_fits_at (bytes_eq (first_word words) (codes "open")) (bytes_eq words (codes "close")) words said e

session_low_at : (t : Bool) (n s : ℕ) → ltb n 256 ≡ t → cond {A = Option ℕ} t (Some n) None ≡ Some s → s < 256
session_low_at true n s is e = let same : n ≡ s = cc in let low = ltb-true n 256 is in rw same at low
session_low_at false n s is e = absurd cc

session_low : (o : Option ℕ) (s : ℕ) → as_session o ≡ Some s → s < 256
session_low None s e = absurd cc
session_low (Some n) s e = session_low_at (ltb n 256) n s refl e

of_session_fits : (s : ℕ) (r : Result Said TraceCause) (l : TraceLine) → s < 256 → ((said : Said) → r ≡ Ok said → SaidFits said) → of_session s r ≡ Ok l → TraceFits l
of_session_fits s (Err cause) l low good e = absurd cc
of_session_fits s (Ok said) l low good e =
    let this : TraceLine = record { session = s; said = said } in
    let same : this ≡ l = cc in
    let fits : TraceFits this = record { session = low; said = good said refl } in
    rw same at fits

with_session_fits : (o : Option ℕ) (words : List ℕ) (l : TraceLine) → ((s : ℕ) → o ≡ Some s → s < 256) → with_session o words ≡ Ok l → TraceFits l
with_session_fits None words l low e = absurd cc
with_session_fits (Some s) words l low e = of_session_fits s (said_of words) l (low s refl) (λ said is. said_of_fits words said is) e

-- what a line says of a session below 256 is good
pub traced_fits : (line : List ℕ) (l : TraceLine) → traced_by line ≡ Ok l → TraceFits l
traced_fits line l e =
    with_session_fits (session_in (first_word line)) (behind_word line) l (λ s is. session_low (number_in (first_word line)) s is) e

short_body : (said : Said) → SaidFits said → HasShortBody said
short_body (Opens who) fits = tt
short_body (Sends line) fits = fits.body
short_body Closes fits = tt

pub traced_short : (line : List ℕ) (l : TraceLine) → traced_by line ≡ Ok l → HasShortBody l.said
traced_short line l e = short_body l.said (traced_fits line l e).said

pub sends_ok : (r : Result Line LineCause) → IsOk r → IsOk (sends r)
sends_ok (Err cause) ok = cc
sends_ok (Ok line) ok = refl

pub of_session_ok : (s : ℕ) (r : Result Said TraceCause) → IsOk r → IsOk (of_session s r)
of_session_ok s (Err cause) ok = cc
of_session_ok s (Ok said) ok = refl

-- ---- a turn

-- what a line does that does not pass, and then those behind it
pub acts_at : (line : List ℕ) (lines : List (List ℕ)) (seats : List Seat) (does : Result (Act × List Seat) TraceCause) → passes line ≡ false → done_by seats (traced_by line) ≡ does
    → acts_from (line ∷ lines) seats ≡ and_then_acts does (acts_from lines)
acts_at line lines seats does passes_not is =
    ap (λ (t : Bool). cond t (acts_from lines seats) (and_then_acts (done_by seats (traced_by line)) (acts_from lines))) passes_not
    ∙ ap (λ (d : Result (Act × List Seat) TraceCause). and_then_acts d (acts_from lines)) is

fault_at : (line : List ℕ) (lines : List (List ℕ)) (seats : List Seat) (number : ℕ) (does : Result (Act × List Seat) TraceCause) → passes line ≡ false → done_by seats (traced_by line) ≡ does
    → fault_from (line ∷ lines) seats number ≡ or_fault number does (λ now. fault_from lines now (number + 1))
fault_at line lines seats number does passes_not is =
    ap (λ (t : Bool). cond t (fault_from lines seats (number + 1)) (or_fault number (done_by seats (traced_by line)) (λ now. fault_from lines now (number + 1)))) passes_not
    ∙ ap (λ (d : Result (Act × List Seat) TraceCause). or_fault number d (λ now. fault_from lines now (number + 1))) is

-- a line that passes
pub passed : (seats : List Seat) (line out : List ℕ) → passes line ≡ true → GoesOn seats seats line out out
passed seats line out is = record {
  acts = λ lines. ap (λ (t : Bool). out ++ flat_map act_bytes (cond t (acts_from lines seats) (and_then_acts (done_by seats (traced_by line)) (acts_from lines)))) (sym is);
  fault = λ lines number.
      ap (λ (t : Bool). cond t (fault_from lines seats (number + 1)) (or_fault number (done_by seats (traced_by line)) (λ now. fault_from lines now (number + 1)))) (sym is);
}

-- a line that does something
pub does : (seats now_seats : List Seat) (line before now : List ℕ) (act : Act) → passes line ≡ false → done_by seats (traced_by line) ≡ Ok (act, now_seats)
    → now ≡ before ++ act_bytes act → GoesOn seats now_seats line before now
does seats now_seats line before now act passes_not is put = record {
  acts = λ lines.
      let rest : List ℕ = flat_map act_bytes (acts_from lines now_seats) in
      ap (λ (b : List ℕ). b ++ rest) put ∙ append_assoc before (act_bytes act) rest
      ∙ ap (λ (acts : List Act). before ++ flat_map act_bytes acts) (sym (acts_at line lines seats (Ok (act, now_seats)) passes_not is));
  fault = λ lines number. sym (fault_at line lines seats number (Ok (act, now_seats)) passes_not is);
}

-- a line that is at fault
pub ends : (seats : List Seat) (line before now : List ℕ) (cause : TraceCause) → passes line ≡ false → done_by seats (traced_by line) ≡ Err cause → now ≡ before
    → EndsAt seats line before now cause
ends seats line before now cause passes_not is same = record {
  stays = same;
  acts = λ lines. acts_at line lines seats (Err cause) passes_not is;
  fault = λ lines number. fault_at line lines seats number (Err cause) passes_not is;
}

-- the bytes of what lines do are those of their records
pub bytes_by_acts : (acts : List Act) → flat_map act_bytes acts ≡ flat_map record_bytes (flat_map records_for acts)
bytes_by_acts [] = refl
bytes_by_acts (act ∷ acts) =
    ap (λ (b : List ℕ). act_bytes act ++ b) (bytes_by_acts acts) ∙ sym (flat_map-append record_bytes (records_for act) (flat_map records_for acts))

-- what a line does, by what it says and where its session stands
pub done_at : (seats : List Seat) (line : List ℕ) (l : TraceLine) (turn : Result (Act × Seat) TraceCause) → traced_by line ≡ Ok l → turned l.session l.said (seat_at seats l.session) ≡ turn
    → done_by seats (traced_by line) ≡ with_seat seats l.session turn
done_at seats line l turn says is = ap (done_by seats) says ∙ ap (with_seat seats l.session) is

pub unsaid_at : (seats : List Seat) (line : List ℕ) (cause : TraceCause) → traced_by line ≡ Err cause → done_by seats (traced_by line) ≡ Err cause
unsaid_at seats line cause says = ap (done_by seats) says
