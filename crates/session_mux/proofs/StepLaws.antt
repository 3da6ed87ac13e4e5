-- Each step of the mux, said of the fields as they stand before and after it.
use Rattle.std.proofs.Common.{◌≡◌, ℕ, zero, suc, ◌+◌, ◌<◌, ◌≤◌, false, List, [], ◌∷◌, ◌++◌, length, drop, map, set, replicate, Option, None, Some, Result, Ok, Err, refl, sym, ap, subst, ◌∙◌, arith}
use Rattle.std.proofs.lemmas.List.{append-nil, get_or-set_same}
use Rattle.session_mux.specs.declared.events.Event.{Event}
use Rattle.session_mux.specs.declared.sessions.Session.{Session}
use Rattle.session_mux.specs.declared.sessions.Session.TheVariants as session
use Rattle.session_mux.specs.declared.sessions.Stage.{Stage}
use Rattle.session_mux.specs.declared.sessions.Form.{Form}
use Rattle.session_mux.specs.declared.sessions.Form.TheVariants.{Plain, Trace}
use Rattle.session_mux.specs.Arrivals.{Arrival, Data, Unfinished, Bad, Whole, stage_at, within, record_front}
use Rattle.session_mux.specs.Completion.{Standing, arrivals_in, tail_in, fed, events_of, end_of, begins_bad, session_at, stage_of, with_data, settled_session, fault_met, sessions_after, events_by, events_held, GoesTo, IsBadAt, IsUnfinished}
use Rattle.session_mux.specs.RecordSteps.{is_opened}
use Rattle.session_mux.specs.SessionSteps.{SessionsGive, TakesBytes, HasWhole, SomeHasWhole, IsAlone}
use Rattle.session_mux.specs.declared.muxing.Step.TheVariants.{Ended}
use Rattle.session_mux.specs.MuxSteps.{HeldGives, StepGives, HasMoved, HoldsFew, GivesNone, GivesFault, MayWantMemory}
use Rattle.session_mux.specs.declared.events.MuxFault.{MuxFault}
use Rattle.session_mux.specs.declared.events.MuxFault.TheVariants.{BadRecord, NoMemory}
use Rattle.std.specs.Prelude.{IfOk, IfErr, MatchOption, ◌-◌}
use Rattle.session_mux.proofs.RecordLaws.{tail_within, record_step, not_open}
use Rattle.session_mux.proofs.EventLaws.{few_of_quiet, whole_event, whole_unmet, takes_unmet, data_fault}
use Rattle.session_mux.proofs.TableLaws.{AtMost, held_quiet, from_zero, unopened_at, set_other}
use Rattle.session_mux.proofs.GoingLaws.{alike_at, goes_then, held_goes, trace_goes, plain_goes, plain_ends, plain_moved, trace_ends, trace_moved, trace_bad}

pub same_standing : (f f' : Form) (t t' : List ℕ) (b b' : ℕ) (xs ys : List Session) → f ≡ f' → t ≡ t' → b ≡ b' → xs ≡ ys
    → ◌≡◌ {A = Standing} (record { form = f; input = t; before = b; sessions = xs }) (record { form = f'; input = t'; before = b'; sessions = ys })
same_standing f f' t t' b b' xs ys p q r s = rw (p, q, r, s) refl

-- a standing whose form is known
formed : (v : Standing) (f : Form) → v.form ≡ f → ◌≡◌ {A = Standing} (record { form = f; input = v.input; before = v.before; sessions = v.sessions }) v
formed v f e = same_standing f v.form v.input v.input v.before v.before v.sessions v.sessions (sym e) refl refl refl

-- a step of a trace: the old standing is v, by other words st
pub trace_step : (v st : Standing) (a : Arrival) (n : ℕ) (first : List Event) (input : List ℕ) (before : ℕ) (sessions : List Session) → v ≡ st → st.form ≡ Trace
    → record_front (map stage_of st.sessions) st.input ≡ Whole a n → 0 < n → n ≤ length st.input → events_held 0 st.sessions ≡ []
    → events_by a v.sessions ≡ first ++ events_held 0 (sessions_after a v.sessions)
    → input ≡ drop n v.input → before ≡ v.before + n → sessions ≡ sessions_after a v.sessions
    → GoesTo st (record { form = v.form; input = input; before = before; sessions = sessions }) first
trace_step v st a n first input before sessions e form front some le quiet by p q r =
    let form_v : v.form ≡ Trace = ap (λ (x : Standing). x.form) e ∙ form in
    let front_v : record_front (map stage_of v.sessions) v.input ≡ Whole a n = ap (λ (x : Standing). record_front (map stage_of x.sessions) x.input) e ∙ front in
    let le_v : n ≤ length v.input = omega (arith, le, ap (λ (x : Standing). length x.input) e) in
    let quiet_v : events_held 0 v.sessions ≡ [] = ap (λ (x : Standing). events_held 0 x.sessions) e ∙ quiet in
    let base = trace_goes a n v.input v.before v.sessions first front_v some le_v quiet_v by in
    let new = same_standing v.form Trace input (drop n v.input) before (v.before + n) sessions (sessions_after a v.sessions) form_v p q r in
    subst (λ (x : Standing). GoesTo x (record { form = v.form; input = input; before = before; sessions = sessions }) first) (formed v Trace form_v ∙ e)
    (subst (λ (x : Standing). GoesTo (record { form = Trace; input = v.input; before = v.before; sessions = v.sessions }) x first) (sym new) base)

pub plain_step : (v st : Standing) (input : List ℕ) (before : ℕ) (sessions : List Session) → v ≡ st → st.form ≡ Plain → 0 < length v.sessions → events_held 0 st.sessions ≡ []
    → input ≡ [] → before ≡ v.before + length v.input → sessions ≡ sessions_after (Data 0 v.input) v.sessions
    → GoesTo st (record { form = v.form; input = input; before = before; sessions = sessions }) []
plain_step v st input before sessions e form within quiet p q r =
    let form_v : v.form ≡ Plain = ap (λ (x : Standing). x.form) e ∙ form in
    let quiet_v : events_held 0 v.sessions ≡ [] = ap (λ (x : Standing). events_held 0 x.sessions) e ∙ quiet in
    let base = plain_goes v.input v.before v.sessions within quiet_v in
    let new = same_standing v.form Plain input [] before (v.before + length v.input) sessions (sessions_after (Data 0 v.input) v.sessions) form_v p q r in
    subst (λ (x : Standing). GoesTo x (record { form = v.form; input = input; before = before; sessions = sessions }) []) (formed v Plain form_v ∙ e)
    (subst (λ (x : Standing). GoesTo (record { form = Plain; input = v.input; before = v.before; sessions = v.sessions }) x []) (sym new) base)

pub held_step : (v st : Standing) (sessions : List Session) (o : Option Event) → v ≡ st → SessionsGive v.sessions sessions o
    → HeldGives st (record { form = v.form; input = v.input; before = v.before; sessions = sessions }) o
held_step v st sessions None e gives =
    let quiet : events_held 0 st.sessions ≡ [] = sym (ap (λ (x : Standing). events_held 0 x.sessions) e) ∙ gives.0 in (
      same_standing v.form v.form v.input v.input v.before v.before sessions v.sessions refl refl refl gives.1 ∙ e,
      quiet,
      λ s. few_of_quiet s (session_at st.sessions s) (sym (from_zero s (session_at st.sessions s)) ∙ held_quiet 0 st.sessions quiet s),
    )
held_step v st sessions (Some ev) e gives =
    subst (λ (x : Standing). GoesTo x (record { form = v.form; input = v.input; before = v.before; sessions = sessions }) (ev ∷ [])) e
    (held_goes v.form v.input v.before v.sessions sessions (ev ∷ []) gives.0 gives.1)

pub trace_unfinished : (st : Standing) → st.form ≡ Trace → record_front (map stage_of st.sessions) st.input ≡ Unfinished → events_held 0 st.sessions ≡ [] → IsUnfinished st
trace_unfinished st form front quiet = subst IsUnfinished (formed st Trace form) (trace_ends st.input st.before st.sessions front quiet)

pub trace_stuck : (v st : Standing) → v ≡ st → st.form ≡ Trace → record_front (map stage_of st.sessions) st.input ≡ Bad → events_held 0 st.sessions ≡ [] → IsBadAt st v.before
trace_stuck v st e form front quiet =
    subst (λ (n : ℕ). IsBadAt st n) (sym (ap (λ (x : Standing). x.before) e))
    (subst (λ (x : Standing). IsBadAt x st.before) (formed st Trace form) (trace_bad st.input st.before st.sessions front quiet))

-- the same of the bytes that are held
pub trace_bad_front : (v st : Standing) → v ≡ st → st.form ≡ Trace → (bytes : List ℕ) → bytes ≡ v.input → record_front (map stage_of st.sessions) bytes ≡ Bad
    → events_held 0 st.sessions ≡ [] → IsBadAt st v.before
trace_bad_front v st e form bytes held front quiet =
    trace_stuck v st e form (ap (record_front (map stage_of st.sessions)) (sym (held ∙ ap (λ (x : Standing). x.input) e)) ∙ front) quiet

-- a record of a session that is not open is bad
pub trace_not_open : (v st : Standing) → v ≡ st → st.form ≡ Trace → (bytes : List ℕ) → bytes ≡ v.input → (s : ℕ) (a : Arrival) (n : ℕ)
    → is_opened (stage_at (map stage_of v.sessions) s) ≡ false → ((stages : List Stage) → record_front stages bytes ≡ within (stage_at stages s) a n)
    → events_held 0 st.sessions ≡ [] → IsBadAt st v.before
trace_not_open v st e form bytes held s a n closed front quiet =
    let stages : List Stage = map stage_of st.sessions in
    let stage : is_opened (stage_at stages s) ≡ false = ap (λ (x : Standing). is_opened (stage_at (map stage_of x.sessions) s)) (sym e) ∙ closed in
    trace_bad_front v st e form bytes held (front stages ∙ not_open (stage_at stages s) a n stage) quiet

no_input : (input : List ℕ) → length input ≡ 0 → input ≡ []
no_input [] e = refl
no_input (b ∷ input) e = absurd (omega arith)

pub plain_unfinished : (st : Standing) → st.form ≡ Plain → length st.input ≡ 0 → events_held 0 st.sessions ≡ [] → IsUnfinished st
plain_unfinished st form none quiet =
    let is : ◌≡◌ {A = Standing} (record { form = Plain; input = []; before = st.before; sessions = st.sessions }) st =
    same_standing Plain st.form [] st.input st.before st.before st.sessions st.sessions (sym form) (sym (no_input st.input none)) refl refl
    in
    subst IsUnfinished is (plain_ends st.before st.sessions quiet)

-- all that came was moved to its session
pub trace_has_moved : (st : Standing) → st.form ≡ Trace → record_front (map stage_of st.sessions) st.input ≡ Unfinished → HasMoved st
trace_has_moved st form front = subst HasMoved (formed st Trace form) (trace_moved st.input st.sessions front)

pub plain_has_moved : (st : Standing) → st.form ≡ Plain → length st.input ≡ 0 → HasMoved st
plain_has_moved st form none =
    let is : ◌≡◌ {A = Standing} (record { form = Plain; input = []; before = st.before; sessions = st.sessions }) st =
    same_standing Plain st.form [] st.input st.before st.before st.sessions st.sessions (sym form) (sym (no_input st.input none)) refl refl
    in
    subst HasMoved is (plain_moved st.sessions)

-- ---- several steps

pub no_more_input : (st : Standing) → fed st [] ≡ st
no_more_input st = same_standing st.form st.form (st.input ++ []) st.input st.before st.before st.sessions st.sessions refl (append-nil st.input) refl refl

-- what comes first is what a later standing has first
pub first_then : (a b c : Standing) (e : Event) → GoesTo a b [] → GoesTo b c (e ∷ []) → GoesTo a c (e ∷ [])
first_then a b c e p q = goes_then a b c [] (e ∷ []) p q

pub none_then : (a b c : Standing) → GoesTo a b [] → GoesTo b c [] → GoesTo a c []
none_then a b c p q = goes_then a b c [] [] p q

pub unfinished_before : (a b : Standing) → GoesTo a b [] → IsUnfinished b → IsUnfinished a
unfinished_before a b p is =
    let events : events_of a ≡ events_of b = ap events_of (sym (no_more_input a)) ∙ p.events [] ∙ ap events_of (no_more_input b) in
    let ends : end_of a ≡ end_of b = ap end_of (sym (no_more_input a)) ∙ p.ends [] ∙ ap end_of (no_more_input b) in
    record { none = events ∙ is.none; good = ap begins_bad ends ∙ is.good }

pub bad_before : (a b : Standing) (at : ℕ) → GoesTo a b [] → IsBadAt b at → IsBadAt a at
bad_before a b at p is =
    record {
      none = λ more. p.events more ∙ is.none more;
      bad = λ more. ap begins_bad (p.ends more) ∙ is.bad more;
      place = λ more. ap (λ (x : Standing). x.before) (p.ends more) ∙ is.place more;
    }

-- ---- nothing is left but an unfinished record

-- the first standing a, the one b that held events are looked for in, c behind that, and d behind the step
pub ends_here : (a b c d : Standing) → GoesTo a b [] → HeldGives b c None → StepGives c d Ended → GivesNone a d
ends_here a b c d p held ended =
    let at_c : GoesTo a c [] = subst (λ (x : Standing). GoesTo a x []) (sym held.0) p in
    let at_d : GoesTo a d [] = subst (λ (x : Standing). GoesTo a x []) (sym ended.0) at_c in
    let same : d ≡ b = ended.0 ∙ held.0 in
    record {
      goes = at_d;
      unfinished = unfinished_before a c at_c ended.1;
      few =
          subst HoldsFew (sym same)
          (record { record_few = omega (arith, ended.3, ap (λ (x : Standing). length x.input) held.0); frames_few = held.2 });
      moved = subst HasMoved (sym ended.0) ended.2;
    }

-- ---- no byte of the input is lost

all_taken : (form : Form) (input : List ℕ) (before : ℕ) (sessions : List Session)
    → before + (length input - length (tail_in form sessions input)) + length (tail_in form sessions input) ≡ before + length input
all_taken Plain input before sessions = omega arith
all_taken Trace input before sessions = omega (arith, tail_within input (map stage_of sessions) 0)

abbrev pub came : Standing → ℕ
came st = st.before + length st.input

end_came : (st : Standing) → came (end_of st) ≡ came st
end_came st = all_taken st.form st.input st.before st.sessions

same_taken : (old new : Standing) (first : List Event) → GoesTo old new first → came new ≡ came old
same_taken old new first goes =
    let ends : end_of old ≡ end_of new = ap end_of (sym (no_more_input old)) ∙ goes.ends [] ∙ ap end_of (no_more_input new) in
    sym (end_came new) ∙ ap came (sym ends) ∙ end_came old

pub taken_from : (old new : Standing) (r : Result (Option Event) MuxFault) → IfOk r (λ event. MatchOption event (GivesNone old new) (λ e. GoesTo old new (e ∷ [])))
    → IfErr r (λ e. GivesFault old new e) → came new ≡ came old
taken_from old new (Ok None) some fault = same_taken old new [] some.goes
taken_from old new (Ok (Some e)) some fault = same_taken old new (e ∷ []) some
taken_from old new (Err (BadRecord at)) some fault = same_taken old new [] fault.0
taken_from old new (Err NoMemory) some fault = same_taken old new [] fault

-- ---- what memory is wanted for

-- what is of the form of a trace is not plain
pub not_plain : {A : Type 0} (form : Form) → form ≡ Trace → form ≡ Plain → A
not_plain form trace plain = absurd (let no : Trace ≡ Plain = sym trace ∙ plain in cc)

trace_record : (form : Form) (input : List ℕ) (xs : List Session) (a : Arrival) (n : ℕ) → form ≡ Trace → record_front (map stage_of xs) input ≡ Whole a n → 0 < n → arrivals_in form xs input ≡ [] → ⊥
trace_record Plain input xs a n is front some none = not_plain Plain is refl
trace_record Trace input xs a n is front some none =
    let read = (record_step (map stage_of xs) input a n front some).0 in
    cc

-- a whole record of a trace is held
pub trace_wants : (st : Standing) (a : Arrival) (n : ℕ) → st.form ≡ Trace → record_front (map stage_of st.sessions) st.input ≡ Whole a n → 0 < n → n ≤ length st.input → MayWantMemory st
trace_wants st a n form front some le =
    record {
      some = λ none quiet. absurd (omega (arith, ap length none, some, le));
      whole = λ none quiet. trace_record st.form st.input st.sessions a n form front some none;
      plain = λ is. not_plain st.form form is;
    }

plain_record : (form : Form) (input : List ℕ) (xs : List Session) → form ≡ Plain → arrivals_in form xs input ≡ [] → ⊥
plain_record Plain input xs is none = cc
plain_record Trace input xs is none = not_plain Trace refl is

-- bytes of plain input are held, and session 0 takes them
pub plain_wants : (st : Standing) → st.form ≡ Plain → (length st.input ≡ 0 → ⊥) → TakesBytes (session_at st.sessions 0) → MayWantMemory st
plain_wants st form more takes =
    record {
      some = λ none quiet. more (ap length none);
      whole = λ none quiet. plain_record st.form st.input st.sessions form none;
      plain = λ is. takes_unmet (session_at st.sessions 0) takes;
    }

alone_unmet : (xs : List Session) (s : ℕ) → IsAlone xs → HasWhole (session_at xs s) → fault_met (session_at xs 0) ≡ None
alone_unmet xs zero alone has = whole_unmet (session_at xs 0) has
alone_unmet xs (suc s) alone has = absurd (subst HasWhole (alone (suc s) (λ e. cc)) has)

-- a session holds an event
pub held_wants : (st : Standing) → (st.form ≡ Plain → IsAlone st.sessions) → SomeHasWhole st.sessions → MayWantMemory st
held_wants st alone (s, has) =
    let event : events_held 0 st.sessions ≡ [] → ⊥ =
    λ quiet. whole_event s (session_at st.sessions s) has (sym (from_zero s (session_at st.sessions s)) ∙ held_quiet 0 st.sessions quiet s)
    in
    record {
      some = λ none quiet. event quiet;
      whole = λ none quiet. event quiet;
      plain = λ is. alone_unmet st.sessions s (alone is) has;
    }

-- memory that is wanted once plain input was moved was wanted before
pub plain_moved_wants : (v st : Standing) (f : Form) (input : List ℕ) (before : ℕ) (sessions : List Session) → v ≡ st → 0 < length v.sessions → (length v.input ≡ 0 → ⊥)
    → sessions ≡ sessions_after (Data 0 v.input) v.sessions → f ≡ Plain → v.form ≡ Plain → MayWantMemory (record { form = f; input = input; before = before; sessions = sessions }) → MayWantMemory st
plain_moved_wants v st f input before sessions e within more after form form_v wants =
    let x : Session = session_at v.sessions 0 in
    let same : fault_met (session_at sessions 0) ≡ fault_met x =
    ap (λ (xs : List Session). fault_met (session_at xs 0)) after
    ∙ ap fault_met (get_or-set_same v.sessions 0 (with_data x v.input) session.Unopened within)
    ∙ data_fault x v.input
    in
    subst MayWantMemory e
    (record {
      some = λ none quiet. more (ap length none);
      whole = λ none quiet. plain_record v.form v.input v.sessions form_v none;
      plain = λ is. sym same ∙ wants.plain form;
    })

-- ---- plain input opens no session but session 0

pub alone_unopened : (n : ℕ) → IsAlone (replicate n session.Unopened)
alone_unopened n s other = unopened_at n s

pub alone_set : (x : Session) (xs : List Session) → IsAlone xs → IsAlone (set xs 0 x)
alone_set x xs alone s other = set_other xs 0 s x other ∙ alone s other

settled_unopened : (x : Session) → settled_session x ≡ session.Unopened → x ≡ session.Unopened
settled_unopened session.Unopened e = refl
settled_unopened (session.Open who b) e = absurd cc
settled_unopened session.Closed e = absurd cc

pub alone_given : (xs ys : List Session) (o : Option Event) → SessionsGive xs ys o → IsAlone xs → IsAlone ys
alone_given xs ys None gives alone = subst IsAlone (sym gives.1) alone
alone_given xs ys (Some e) gives alone =
    λ s other. settled_unopened (session_at ys s) (sym (alike_at xs ys gives.1 s) ∙ ap settled_session (alone s other))

pub at_most_given : (xs ys : List Session) (o : Option Event) (most : ℕ) → SessionsGive xs ys o → AtMost xs most → AtMost ys most
at_most_given xs ys None most gives all = subst (λ (zs : List Session). AtMost zs most) (sym gives.1) all
at_most_given xs ys (Some e) most gives all = λ s. omega (arith, gives.2 s, all s)
