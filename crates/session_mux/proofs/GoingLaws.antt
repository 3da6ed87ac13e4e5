-- Going on from one standing to the next keeps the events and the end.
use Rattle.std.proofs.Common.{◌≡◌, ℕ, zero, suc, ◌+◌, ◌-◌, ◌<◌, ◌≤◌, List, [], ◌∷◌, ◌++◌, length, drop, map, set, get_or, refl, sym, ap, ◌∙◌, append_assoc, arith}
use Rattle.std.proofs.lemmas.List.{append-nil, drop-append-le, length-append, length-drop, drop_at, map-set, get_or-set_same, set-get_or}
use Rattle.std.proofs.Math.Seq.{map-set_same}
use Rattle.std.proofs.Math.ListN.{get_or-map}
use Rattle.ctrl_model.specs.declared.kinds.Who.{Who}
use Rattle.channel_frame.specs.SessionBytes.{no_bytes}
use Rattle.session_mux.specs.declared.events.Event.{Event}
use Rattle.session_mux.specs.declared.events.Event.TheVariants as event
use Rattle.session_mux.specs.declared.sessions.Session.{Session}
use Rattle.session_mux.specs.declared.sessions.Session.TheVariants as session
use Rattle.session_mux.specs.declared.sessions.Stage.{Stage}
use Rattle.session_mux.specs.declared.sessions.Form.{Form}
use Rattle.session_mux.specs.declared.sessions.Form.TheVariants.{Plain, Trace}
use Rattle.session_mux.specs.Arrivals.{Arrival, Open, Data, Close, Unfinished, Bad, Whole, stages_after, record_front, records_of, tail_of}
use Rattle.session_mux.specs.Completion.{Standing, session_at, fed, stage_of, with_data, settled_session, session_events, rest_len, sessions_after, events_by, sessions_along, events_along, events_held, arrivals_in, tail_in, events_of, is_bad_in, GoesTo, IsBadAt, IsUnfinished}
use Rattle.session_mux.proofs.EventLaws.{more_events, settled_more, data_twice, data_none, stage_settled, stage_data, rest_settled}
use Rattle.session_mux.proofs.TableLaws.{none_before, held_quiet, held_of_ready, quiet_but_set, from_zero}
use Rattle.session_mux.proofs.RecordLaws.{record_stays, record_step, record_stop, tail_within}

-- ---- sessions that are alike: what is left of them is the same

abbrev pub AreAlike : List Session → List Session → Type 0
AreAlike xs ys = map settled_session xs ≡ map settled_session ys

pub alike_at : (xs ys : List Session) → AreAlike xs ys → (s : ℕ) → settled_session (session_at xs s) ≡ settled_session (session_at ys s)
alike_at xs ys alike s =
    sym (get_or-map settled_session xs s session.Unopened) ∙ ap (λ (zs : List Session). get_or zs s session.Unopened) alike ∙ get_or-map settled_session ys s session.Unopened

-- the events of data are those of what is left and the data
pub data_events : (s : ℕ) (bytes : List ℕ) (xs : List Session) → events_by (Data s bytes) xs ≡ session_events s (with_data (settled_session (session_at xs s)) bytes)
data_events s bytes xs =
    let x : Session = session_at xs s in
    ap (drop (length (session_events s x))) (more_events s x bytes)
    ∙ drop_at (session_events s x) (session_events s (with_data (settled_session x) bytes)) (length (session_events s x)) refl

alike_events : (a : Arrival) (xs ys : List Session) → AreAlike xs ys → events_by a xs ≡ events_by a ys
alike_events (Open s who) xs ys alike = refl
alike_events (Data s bytes) xs ys alike = data_events s bytes xs ∙ ap (λ (x : Session). session_events s (with_data x bytes)) (alike_at xs ys alike s) ∙ sym (data_events s bytes ys)
alike_events (Close s) xs ys alike =
    ap (λ (n : ℕ). event.Closed s n ∷ []) (sym (rest_settled (session_at xs s)) ∙ ap rest_len (alike_at xs ys alike s) ∙ rest_settled (session_at ys s))

alike_set : (s : ℕ) (x y : Session) (xs ys : List Session) → AreAlike xs ys → settled_session x ≡ settled_session y → AreAlike (set xs s x) (set ys s y)
alike_set s x y xs ys alike same =
    map-set settled_session xs s x
    ∙ ap (λ (zs : List Session). set zs s (settled_session x)) alike
    ∙ ap (set (map settled_session ys) s) same
    ∙ sym (map-set settled_session ys s y)

alike_data : (s : ℕ) (bytes : List ℕ) (xs ys : List Session) → AreAlike xs ys → settled_session (with_data (session_at xs s) bytes) ≡ settled_session (with_data (session_at ys s) bytes)
alike_data s bytes xs ys alike =
    settled_more (session_at xs s) bytes ∙ ap (λ (x : Session). settled_session (with_data x bytes)) (alike_at xs ys alike s) ∙ sym (settled_more (session_at ys s) bytes)

alike_after : (a : Arrival) (xs ys : List Session) → AreAlike xs ys → AreAlike (sessions_after a xs) (sessions_after a ys)
alike_after (Open s who) xs ys alike = alike_set s (session.Open who no_bytes) (session.Open who no_bytes) xs ys alike refl
alike_after (Data s bytes) xs ys alike = alike_set s (with_data (session_at xs s) bytes) (with_data (session_at ys s) bytes) xs ys alike (alike_data s bytes xs ys alike)
alike_after (Close s) xs ys alike = alike_set s session.Closed session.Closed xs ys alike refl

pub alike_along : (later : List Arrival) (xs ys : List Session) → AreAlike xs ys
    → (events_along xs later ≡ events_along ys later) × AreAlike (sessions_along xs later) (sessions_along ys later)
alike_along [] xs ys alike = (refl, alike)
alike_along (a ∷ later) xs ys alike =
    let rest = alike_along later (sessions_after a xs) (sessions_after a ys) (alike_after a xs ys alike) in (
      ap (λ (es : List Event). es ++ events_along (sessions_after a xs) later) (alike_events a xs ys alike) ∙ ap (λ (es : List Event). events_by a ys ++ es) rest.0,
      rest.1,
    )

stages_settled : (xs : List Session) → map stage_of (map settled_session xs) ≡ map stage_of xs
stages_settled [] = refl
stages_settled (x ∷ xs) =
    ap (λ (s : Stage). s ∷ map stage_of (map settled_session xs)) (stage_settled x) ∙ ap (λ (ss : List Stage). stage_of x ∷ ss) (stages_settled xs)

pub alike_stages : (xs ys : List Session) → AreAlike xs ys → map stage_of xs ≡ map stage_of ys
alike_stages xs ys alike = sym (stages_settled xs) ∙ ap (map stage_of) alike ∙ stages_settled ys

alike_arrivals : (form : Form) (xs ys : List Session) (input : List ℕ) → map stage_of xs ≡ map stage_of ys
    → (arrivals_in form xs input ≡ arrivals_in form ys input) × (tail_in form xs input ≡ tail_in form ys input)
alike_arrivals Plain xs ys input same = (refl, refl)
alike_arrivals Trace xs ys input same = (ap (λ (ss : List Stage). records_of ss input) same, ap (λ (ss : List Stage). tail_of ss input) same)

-- ---- standings that give the same

same_end : (form : Form) (b b' : ℕ) (t t' : List ℕ) (xs ys : List Session) → t ≡ t' → b ≡ b' → xs ≡ ys
    → ◌≡◌ {A = Standing} (record { form = form; input = t; before = b; sessions = xs }) (record { form = form; input = t'; before = b'; sessions = ys })
same_end form b b' t t' xs ys p q r = rw (p, q, r) refl

-- an event of what sessions hold is given
pub held_goes : (form : Form) (input : List ℕ) (before : ℕ) (xs ys : List Session) (first : List Event) → events_held 0 xs ≡ first ++ events_held 0 ys → AreAlike xs ys
    → GoesTo (record { form = form; input = input; before = before; sessions = xs }) (record { form = form; input = input; before = before; sessions = ys }) first
held_goes form input before xs ys first held alike =
    let stages = alike_stages xs ys alike in
    record {
      events = λ more.
          let i : List ℕ = input ++ more in
          let same = alike_arrivals form xs ys i stages in
          let along = alike_along (arrivals_in form ys i) xs ys alike in
          ap (λ (es : List Event). es ++ events_along xs (arrivals_in form xs i)) held
          ∙ ap (λ (later : List Arrival). (first ++ events_held 0 ys) ++ events_along xs later) same.0
          ∙ ap (λ (es : List Event). (first ++ events_held 0 ys) ++ es) along.0
          ∙ append_assoc first (events_held 0 ys) (events_along ys (arrivals_in form ys i));
      ends = λ more.
          let i : List ℕ = input ++ more in
          let same = alike_arrivals form xs ys i stages in
          let along = alike_along (arrivals_in form ys i) xs ys alike in
          same_end form _ _ _ _ _ _ same.1 (ap (λ (t : List ℕ). before + (length i - length t)) same.1)
          (ap (λ (later : List Arrival). map settled_session (sessions_along xs later)) same.0 ∙ along.1);
    }

pub stays_put : (st : Standing) → GoesTo st st []
stays_put st = record { events = λ more. refl; ends = λ more. refl }

pub goes_then : (a b c : Standing) (xs ys : List Event) → GoesTo a b xs → GoesTo b c ys → GoesTo a c (xs ++ ys)
goes_then a b c xs ys p q =
    record {
      events = λ more. p.events more ∙ ap (λ (es : List Event). xs ++ es) (q.events more) ∙ sym (append_assoc xs ys (events_of (fed c more)));
      ends = λ more. p.ends more ∙ q.ends more;
    }

-- ---- a record of a trace is read

pub stages_read : (a : Arrival) (xs : List Session) → map stage_of (sessions_after a xs) ≡ stages_after a (map stage_of xs)
stages_read (Open s who) xs = map-set stage_of xs s (session.Open who no_bytes)
stages_read (Data s bytes) xs = map-set_same stage_of xs s (with_data (session_at xs s) bytes) session.Unopened (stage_data (session_at xs s) bytes)
stages_read (Close s) xs = map-set stage_of xs s session.Closed

trace_events : (a : Arrival) (xs : List Session) (i j : List ℕ) (first : List Event) → events_held 0 xs ≡ [] → events_by a xs ≡ first ++ events_held 0 (sessions_after a xs)
    → records_of (map stage_of xs) i ≡ a ∷ records_of (stages_after a (map stage_of xs)) j
    → events_held 0 xs ++ events_along xs (records_of (map stage_of xs) i)
    ≡ first ++ (events_held 0 (sessions_after a xs) ++ events_along (sessions_after a xs) (records_of (map stage_of (sessions_after a xs)) j))
trace_events a xs i j first quiet by read =
    let ys : List Session = sessions_after a xs in
    let later : List Arrival = records_of (stages_after a (map stage_of xs)) j in
    let same : later ≡ records_of (map stage_of ys) j = ap (λ (ss : List Stage). records_of ss j) (sym (stages_read a xs)) in
    none_before (events_held 0 xs) (events_along xs (records_of (map stage_of xs) i)) (events_by a xs ++ events_along ys later) quiet (ap (events_along xs) read)
    ∙ ap (λ (es : List Event). es ++ events_along ys later) by
    ∙ append_assoc first (events_held 0 ys) (events_along ys later)
    ∙ ap (λ (as_read : List Arrival). first ++ (events_held 0 ys ++ events_along ys as_read)) same

pub trace_goes : (a : Arrival) (n : ℕ) (input : List ℕ) (before : ℕ) (xs : List Session) (first : List Event) → record_front (map stage_of xs) input ≡ Whole a n
    → 0 < n → n ≤ length input → events_held 0 xs ≡ [] → events_by a xs ≡ first ++ events_held 0 (sessions_after a xs)
    → GoesTo (record { form = Trace; input = input; before = before; sessions = xs }) (record { form = Trace; input = drop n input; before = before + n; sessions = sessions_after a xs }) first
trace_goes a n input before xs first front some le quiet by =
    let stages : List Stage = map stage_of xs in
    let ys : List Session = sessions_after a xs in
    record {
      events = λ more.
          let cut : drop n (input ++ more) ≡ drop n input ++ more = drop-append-le n input more le in
          let there : record_front stages (input ++ more) ≡ Whole a n = record_stays stages input more (λ e. cc) ∙ front in
          let step = record_step stages (input ++ more) a n there some in
          trace_events a xs (input ++ more) (drop n input ++ more) first quiet by
          (step.0 ∙ ap (λ (j : List ℕ). a ∷ records_of (stages_after a stages) j) cut);
      ends = λ more.
          let cut : drop n (input ++ more) ≡ drop n input ++ more = drop-append-le n input more le in
          let there : record_front stages (input ++ more) ≡ Whole a n = record_stays stages input more (λ e. cc) ∙ front in
          let step = record_step stages (input ++ more) a n there some in
          let j : List ℕ = drop n input ++ more in
          let tail : tail_of stages (input ++ more) ≡ tail_of (map stage_of ys) j =
          step.1 ∙ ap (tail_of (stages_after a stages)) cut ∙ ap (λ (ss : List Stage). tail_of ss j) (sym (stages_read a xs))
          in
          let arrivals : records_of stages (input ++ more) ≡ a ∷ records_of (map stage_of ys) j =
          step.0 ∙ ap (λ (x : List ℕ). a ∷ records_of (stages_after a stages) x) cut ∙ ap (λ (ss : List Stage). a ∷ records_of ss j) (sym (stages_read a xs))
          in
          let few = tail_within j (map stage_of ys) 0 in
          let place : before + (length (input ++ more) - length (tail_of stages (input ++ more))) ≡ before + n + (length j - length (tail_of (map stage_of ys) j)) =
          omega (arith, ap length tail, length-append input more, length-append (drop n input) more, length-drop n input, few)
          in
          same_end Trace _ _ _ _ _ _ tail place (ap (λ (later : List Arrival). map settled_session (sessions_along xs later)) arrivals);
    }

-- ---- what each record gives

one_set : (s : ℕ) (x : Session) (xs : List Session) → s < length xs → events_held 0 xs ≡ [] → events_held 0 (set xs s x) ≡ session_events s x
one_set s x xs within quiet =
    held_of_ready s (set xs s x) (quiet_but_set s x xs quiet) ∙ ap (session_events s) (get_or-set_same xs s x session.Unopened within)

quiet_at : (s : ℕ) (xs : List Session) → events_held 0 xs ≡ [] → session_events s (session_at xs s) ≡ []
quiet_at s xs quiet = sym (from_zero s (session_at xs s)) ∙ held_quiet 0 xs quiet s

pub open_gives : (s : ℕ) (who : Who) (xs : List Session) → s < length xs → events_held 0 xs ≡ []
    → events_by (Open s who) xs ≡ (event.Opened s who ∷ []) ++ events_held 0 (sessions_after (Open s who) xs)
open_gives s who xs within quiet = ap (λ (es : List Event). event.Opened s who ∷ es) (sym (one_set s (session.Open who no_bytes) xs within quiet))

pub close_gives : (s : ℕ) (xs : List Session) → s < length xs → events_held 0 xs ≡ []
    → events_by (Close s) xs ≡ (event.Closed s (rest_len (session_at xs s)) ∷ []) ++ events_held 0 (sessions_after (Close s) xs)
close_gives s xs within quiet = ap (λ (es : List Event). event.Closed s (rest_len (session_at xs s)) ∷ es) (sym (one_set s session.Closed xs within quiet))

pub data_gives : (s : ℕ) (bytes : List ℕ) (xs : List Session) → s < length xs → events_held 0 xs ≡ []
    → events_by (Data s bytes) xs ≡ [] ++ events_held 0 (sessions_after (Data s bytes) xs)
data_gives s bytes xs within quiet =
    let x : Session = session_at xs s in
    ap (λ (es : List Event). drop (length es) (session_events s (with_data x bytes))) (quiet_at s xs quiet) ∙ sym (one_set s (with_data x bytes) xs within quiet)

-- ---- plain input is moved to its session

set_twice : (xs : List Session) (s : ℕ) (x y : Session) → set (set xs s x) s y ≡ set xs s y
set_twice [] s x y = refl
set_twice (z ∷ xs) zero x y = refl
set_twice (z ∷ xs) (suc s) x y = ap (λ (zs : List Session). z ∷ zs) (set_twice xs s x y)

behind : (xs ys zs : List Event) → zs ≡ xs ++ ys → xs ++ drop (length xs) zs ≡ zs
behind xs ys zs e = ap (λ (es : List Event). xs ++ drop (length xs) es) e ∙ ap (λ (es : List Event). xs ++ es) (drop_at xs ys (length xs) refl) ∙ sym e

pub plain_goes : (input : List ℕ) (before : ℕ) (xs : List Session) → 0 < length xs → events_held 0 xs ≡ []
    → GoesTo (record { form = Plain; input = input; before = before; sessions = xs })
    (record { form = Plain; input = []; before = before + length input; sessions = sessions_after (Data 0 input) xs }) []
plain_goes input before xs within quiet =
    let x : Session = session_at xs 0 in
    let ys : List Session = set xs 0 (with_data x input) in
    let there : session_at ys 0 ≡ with_data x input = get_or-set_same xs 0 (with_data x input) session.Unopened within in
    let held : events_held 0 ys ≡ session_events 0 (with_data x input) = one_set 0 (with_data x input) xs within quiet in
    record {
      events = λ more.
          let whole : List Event = session_events 0 (with_data x (input ++ more)) in
          let two : session_events 0 (with_data (with_data x input) more) ≡ whole = ap (session_events 0) (data_twice x input more) in
          let old : events_by (Data 0 (input ++ more)) xs ≡ whole = ap (λ (es : List Event). drop (length es) whole) (quiet_at 0 xs quiet) in
          let new : events_by (Data 0 more) ys ≡ drop (length (session_events 0 (with_data x input))) whole =
          ap (λ (y : Session). drop (length (session_events 0 y)) (session_events 0 (with_data y more))) there ∙ ap (drop (length (session_events 0 (with_data x input)))) two
          in
          let joined : session_events 0 (with_data x input) ++ drop (length (session_events 0 (with_data x input))) whole ≡ whole =
          behind _ (session_events 0 (with_data (settled_session (with_data x input)) more)) whole (sym two ∙ more_events 0 (with_data x input) more)
          in
          none_before (events_held 0 xs) (events_by (Data 0 (input ++ more)) xs ++ []) whole quiet (append-nil (events_by (Data 0 (input ++ more)) xs) ∙ old)
          ∙ sym joined
          ∙ ap (λ (es : List Event). es ++ drop (length (session_events 0 (with_data x input))) whole) (sym held)
          ∙ ap (λ (es : List Event). events_held 0 ys ++ es) (sym new ∙ sym (append-nil (events_by (Data 0 more) ys)));
      ends = λ more.
          let place : before + (length (input ++ more) - 0) ≡ before + length input + (length more - 0) = omega (arith, length-append input more) in
          let same : set ys 0 (with_data (session_at ys 0) more) ≡ set xs 0 (with_data x (input ++ more)) =
          ap (λ (y : Session). set ys 0 (with_data y more)) there ∙ set_twice xs 0 (with_data x input) (with_data (with_data x input) more) ∙ ap (set xs 0) (data_twice x input more)
          in
          same_end Plain _ _ [] [] _ _ refl place (ap (map settled_session) (sym same));
    }

-- ---- nothing goes on

pub plain_ends : (before : ℕ) (xs : List Session) → events_held 0 xs ≡ [] → IsUnfinished (record { form = Plain; input = []; before = before; sessions = xs })
plain_ends before xs quiet =
    let x : Session = session_at xs 0 in
    let none : events_by (Data 0 []) xs ≡ [] = ap (λ (y : Session). drop (length (session_events 0 x)) (session_events 0 y)) (data_none x) ∙ ap (λ (es : List Event). drop (length es) es) (quiet_at 0 xs quiet) in
    record {
      none = none_before (events_held 0 xs) (events_by (Data 0 []) xs ++ []) [] quiet (append-nil (events_by (Data 0 []) xs) ∙ none);
      good = refl;
    }

pub trace_ends : (input : List ℕ) (before : ℕ) (xs : List Session) → record_front (map stage_of xs) input ≡ Unfinished → events_held 0 xs ≡ []
    → IsUnfinished (record { form = Trace; input = input; before = before; sessions = xs })
trace_ends input before xs front quiet =
    let stop = record_stop (map stage_of xs) input (λ a n e. cc) in
    let along : sessions_along xs (records_of (map stage_of xs) input) ≡ xs = ap (sessions_along xs) stop.0 in
    let stages : map stage_of (map settled_session (sessions_along xs (records_of (map stage_of xs) input))) ≡ map stage_of xs =
    ap (λ (zs : List Session). map stage_of (map settled_session zs)) along ∙ stages_settled xs
    in
    record {
      none = none_before (events_held 0 xs) (events_along xs (records_of (map stage_of xs) input)) [] quiet (ap (events_along xs) stop.0);
      good =
          ap (λ (ss : List Stage). is_bad_in Trace (record_front ss (tail_of (map stage_of xs) input))) stages
          ∙ ap (λ (t : List ℕ). is_bad_in Trace (record_front (map stage_of xs) t)) stop.1
          ∙ ap (is_bad_in Trace) front;
    }

-- All that came was moved: where no input is left in plain input, and where the front of a trace is unfinished.
pub plain_moved : (xs : List Session) → map settled_session (sessions_along xs (Data 0 [] ∷ [])) ≡ map settled_session xs
plain_moved xs =
    ap (λ (x : Session). map settled_session (set xs 0 x)) (data_none (session_at xs 0)) ∙ ap (map settled_session) (set-get_or xs 0 session.Unopened)

pub trace_moved : (input : List ℕ) (xs : List Session) → record_front (map stage_of xs) input ≡ Unfinished
    → map settled_session (sessions_along xs (records_of (map stage_of xs) input)) ≡ map settled_session xs
trace_moved input xs front =
    let stop = record_stop (map stage_of xs) input (λ a n e. cc) in
    ap (λ (arrivals : List Arrival). map settled_session (sessions_along xs arrivals)) stop.0

pub trace_bad : (input : List ℕ) (before : ℕ) (xs : List Session) → record_front (map stage_of xs) input ≡ Bad → events_held 0 xs ≡ []
    → IsBadAt (record { form = Trace; input = input; before = before; sessions = xs }) before
trace_bad input before xs front quiet =
    let bad : (more : List ℕ) → record_front (map stage_of xs) (input ++ more) ≡ Bad = λ more. record_stays (map stage_of xs) input more (λ e. cc) ∙ front in
    record {
      none = λ more.
          let there = bad more in
          let stop = record_stop (map stage_of xs) (input ++ more) (λ a n e. cc) in
          none_before (events_held 0 xs) (events_along xs (records_of (map stage_of xs) (input ++ more))) [] quiet (ap (events_along xs) stop.0);
      bad = λ more.
          let there = bad more in
          let stop = record_stop (map stage_of xs) (input ++ more) (λ a n e. cc) in
          let stages : map stage_of (map settled_session (sessions_along xs (records_of (map stage_of xs) (input ++ more)))) ≡ map stage_of xs =
          ap (λ (zs : List Session). map stage_of (map settled_session zs)) (ap (sessions_along xs) stop.0) ∙ stages_settled xs
          in
          ap (λ (ss : List Stage). is_bad_in Trace (record_front ss (tail_of (map stage_of xs) (input ++ more)))) stages
          ∙ ap (λ (t : List ℕ). is_bad_in Trace (record_front (map stage_of xs) t)) stop.1
          ∙ ap (is_bad_in Trace) there;
      place = λ more.
          let there = bad more in
          let stop = record_stop (map stage_of xs) (input ++ more) (λ a n e. cc) in
          let same : before + (length (input ++ more) - length (input ++ more)) ≡ before = omega arith in
          ap (λ (t : List ℕ). before + (length (input ++ more) - length t)) stop.1 ∙ same;
    }
