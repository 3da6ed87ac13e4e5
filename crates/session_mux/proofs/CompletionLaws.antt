-- Each session's frames are those of all its bytes, whatever records of other sessions stand between.
use Rattle.std.proofs.Common.{◌≡◌, ℕ, ◌<◌, Bool, cond, List, [], ◌∷◌, ◌++◌, length, map, Option, None, Some, refl, sym, ap, subst, ◌∙◌, inl, inr, append_assoc, eq-eqb, arith}
use Rattle.std.proofs.lemmas.Bool.{cases_eq, ne_eqb}
use Rattle.std.proofs.lemmas.List.{append-nil, length-set, get_or-set_same}
use Rattle.std.proofs.Math.ListN.{get_or-map}
use Rattle.ctrl_model.specs.declared.kinds.Who.{Who}
use Rattle.channel_frame.specs.declared.frames.Frame.{Frame}
use Rattle.channel_frame.specs.declared.frames.FrameFault.{FrameFault}
use Rattle.channel_frame.specs.StreamReading.{frames_of}
use Rattle.channel_frame.specs.SessionBytes.{SessionBytes, no_bytes, with_more, frames_held, settled, fault_held}
use Rattle.channel_frame.proofs.SessionLaws.{goes_on, more_twice, no_more}
use Rattle.session_mux.specs.declared.events.Event.{Event}
use Rattle.session_mux.specs.declared.events.Event.TheVariants as event
use Rattle.session_mux.specs.declared.sessions.Session.{Session}
use Rattle.session_mux.specs.declared.sessions.Session.TheVariants as session
use Rattle.session_mux.specs.declared.sessions.Stage.{Stage}
use Rattle.session_mux.specs.declared.sessions.Stage.TheVariants.{Unopened, Opened, Closed}
use Rattle.session_mux.specs.Arrivals.{Arrival, Open, Data, Close, no_sessions, stage_at, stages_after, IsAllowed, AreAllowed}
use Rattle.session_mux.specs.Completion.{unopened, session_at, stage_of, with_data, settled_session, ended, bytes_events, session_events, sessions_after, events_by, sessions_along, events_along}
use Rattle.session_mux.specs.SessionFrames.{joined, own_frame, own_frames, CompletesBy}
use Rattle.session_mux.proofs.TableLaws.{unopened_at, set_other}
use Rattle.session_mux.proofs.GoingLaws.{data_events, stages_read}

-- ---- the frames of one session among events

own_joined : (s : ℕ) (es later : List Event) → own_frames s (es ++ later) ≡ own_frames s es ++ own_frames s later
own_joined s [] later = refl
own_joined s (e ∷ es) later = ap (λ (fs : List Frame). own_frame s e ++ fs) (own_joined s es later) ∙ sym (append_assoc (own_frame s e) (own_frames s es) (own_frames s later))

ended_none : (s t : ℕ) (o : Option (FrameFault × ℕ)) → own_frames s (ended t o) ≡ []
ended_none s t None = refl
ended_none s t (Some f) = refl

-- its own events have its frames
own_map : (s : ℕ) (fs : List Frame) → own_frames s (map (event.Arrived s) fs) ≡ fs
own_map s [] = refl
own_map s (f ∷ fs) =
    ap (λ (b : Bool). cond b (f ∷ []) [] ++ own_frames s (map (event.Arrived s) fs)) (eq-eqb s s refl) ∙ ap (λ (gs : List Frame). f ∷ gs) (own_map s fs)

own_bytes : (s : ℕ) (b : SessionBytes) → own_frames s (bytes_events s b) ≡ frames_held b
own_bytes s b =
    own_joined s (map (event.Arrived s) (frames_held b)) (ended s (fault_held b))
    ∙ ap (λ (fs : List Frame). own_frames s (map (event.Arrived s) (frames_held b)) ++ fs) (ended_none s s (fault_held b))
    ∙ append-nil (own_frames s (map (event.Arrived s) (frames_held b)))
    ∙ own_map s (frames_held b)

-- another session's events have none
other_map : (s t : ℕ) (fs : List Frame) → (t ≡ s → ⊥) → own_frames s (map (event.Arrived t) fs) ≡ []
other_map s t [] apart = refl
other_map s t (f ∷ fs) apart =
    ap (λ (b : Bool). cond b (f ∷ []) [] ++ own_frames s (map (event.Arrived t) fs)) (ne_eqb t s apart) ∙ other_map s t fs apart

other_events : (s t : ℕ) (x : Session) → (t ≡ s → ⊥) → own_frames s (session_events t x) ≡ []
other_events s t session.Unopened apart = refl
other_events s t (session.Open who b) apart =
    own_joined s (map (event.Arrived t) (frames_held b)) (ended t (fault_held b))
    ∙ ap (λ (fs : List Frame). fs ++ own_frames s (ended t (fault_held b))) (other_map s t (frames_held b) apart)
    ∙ ended_none s t (fault_held b)
other_events s t session.Closed apart = refl

-- ---- a record of another session changes nothing of this one

-- the session that a record names
abbrev pub named : Arrival → ℕ
named (Open t who) = t
named (Data t bytes) = t
named (Close t) = t

other_by : (s : ℕ) (a : Arrival) (xs : List Session) → (named a ≡ s → ⊥) → own_frames s (events_by a xs) ≡ []
other_by s (Open t who) xs apart = refl
other_by s (Data t bytes) xs apart = ap (own_frames s) (data_events t bytes xs) ∙ other_events s t (with_data (settled_session (session_at xs t)) bytes) apart
other_by s (Close t) xs apart = refl

other_after : (s : ℕ) (a : Arrival) (xs : List Session) → (named a ≡ s → ⊥) → session_at (sessions_after a xs) s ≡ session_at xs s
other_after s (Open t who) xs apart = set_other xs t s (session.Open who no_bytes) (λ e. apart (sym e))
other_after s (Data t bytes) xs apart = set_other xs t s (with_data (session_at xs t) bytes) (λ e. apart (sym e))
other_after s (Close t) xs apart = set_other xs t s session.Closed (λ e. apart (sym e))

other_joined : (s : ℕ) (a : Arrival) (later : List Arrival) → (named a ≡ s → ⊥) → joined s (a ∷ later) ≡ joined s later
other_joined s (Open t who) later apart = refl
other_joined s (Data t bytes) later apart = ap (λ (b : Bool). cond b bytes [] ++ joined s later) (ne_eqb t s apart)
other_joined s (Close t) later apart = refl

own_data : (s : ℕ) (bytes : List ℕ) (later : List Arrival) → joined s (Data s bytes ∷ later) ≡ bytes ++ joined s later
own_data s bytes later = ap (λ (b : Bool). cond b bytes [] ++ joined s later) (eq-eqb s s refl)

same_count : (a : Arrival) (xs : List Session) (n : ℕ) → length xs ≡ n → length (sessions_after a xs) ≡ n
same_count (Open t who) xs n e = length-set xs t (session.Open who no_bytes) ∙ e
same_count (Data t bytes) xs n e = length-set xs t (with_data (session_at xs t) bytes) ∙ e
same_count (Close t) xs n e = length-set xs t session.Closed ∙ e

stage_is : (xs : List Session) (s : ℕ) → stage_at (map stage_of xs) s ≡ stage_of (session_at xs s)
stage_is xs s = get_or-map stage_of xs s session.Unopened

-- what is allowed behind a record
allowed_behind : (a : Arrival) (later : List Arrival) (xs : List Session) → AreAllowed (map stage_of xs) (a ∷ later) → AreAllowed (map stage_of (sessions_after a xs)) later
allowed_behind a later xs allowed = subst (λ (ss : List Stage). AreAllowed ss later) (sym (stages_read a xs)) allowed.1

-- ---- a session that is closed

abbrev pub NothingMore : ℕ → List Session → List Arrival → Type 0
NothingMore s xs later = (own_frames s (events_along xs later) ≡ []) × (joined s later ≡ [])

nothing_then : (s : ℕ) (a : Arrival) (later : List Arrival) (xs : List Session) → (named a ≡ s → ⊥) → NothingMore s (sessions_after a xs) later → NothingMore s xs (a ∷ later)
nothing_then s a later xs apart more = (
  own_joined s (events_by a xs) (events_along (sessions_after a xs) later)
      ∙ ap (λ (fs : List Frame). fs ++ own_frames s (events_along (sessions_after a xs) later)) (other_by s a xs apart) ∙ more.0,
  other_joined s a later apart ∙ more.1,
)

-- no record of a closed session is allowed
closed_apart : (s : ℕ) (a : Arrival) (xs : List Session) → session_at xs s ≡ session.Closed → IsAllowed (map stage_of xs) a → named a ≡ s → ⊥
closed_apart s (Open t who) xs closed allowed e =
    let st : stage_at (map stage_of xs) t ≡ Closed = stage_is xs t ∙ ap (λ (n : ℕ). stage_of (session_at xs n)) e ∙ ap stage_of closed in
    let no : Closed ≡ Unopened = sym st ∙ allowed.2 in
    absurd cc
closed_apart s (Data t bytes) xs closed allowed e =
    let st : stage_at (map stage_of xs) t ≡ Closed = stage_is xs t ∙ ap (λ (n : ℕ). stage_of (session_at xs n)) e ∙ ap stage_of closed in
    let no : Closed ≡ Opened = sym st ∙ allowed.2 in
    absurd cc
closed_apart s (Close t) xs closed allowed e =
    let st : stage_at (map stage_of xs) t ≡ Closed = stage_is xs t ∙ ap (λ (n : ℕ). stage_of (session_at xs n)) e ∙ ap stage_of closed in
    let no : Closed ≡ Opened = sym st ∙ allowed.1 in
    absurd cc

of_closed : (later : List Arrival) (s : ℕ) (xs : List Session) → session_at xs s ≡ session.Closed → AreAllowed (map stage_of xs) later → NothingMore s xs later
of_closed [] s xs closed allowed = (refl, refl)
of_closed (a ∷ later) s xs closed allowed =
    let apart = closed_apart s a xs closed allowed.0 in
    nothing_then s a later xs apart (of_closed later s (sessions_after a xs) (other_after s a xs apart ∙ closed) (allowed_behind a later xs allowed))

-- ---- a session that is open

-- the frames that it has, and those that come, are those of all its bytes
abbrev pub GoesOnAs : ℕ → SessionBytes → List Session → List Arrival → Type 0
GoesOnAs s b xs later = frames_held b ++ own_frames s (events_along xs later) ≡ frames_held (with_more b (joined s later))

other_goes : (s : ℕ) (a : Arrival) (later : List Arrival) (b : SessionBytes) (xs : List Session) → (named a ≡ s → ⊥) → GoesOnAs s b (sessions_after a xs) later → GoesOnAs s b xs (a ∷ later)
other_goes s a later b xs apart goes =
    ap (λ (fs : List Frame). frames_held b ++ fs) (own_joined s (events_by a xs) (events_along (sessions_after a xs) later))
    ∙ ap (λ (fs : List Frame). frames_held b ++ (fs ++ own_frames s (events_along (sessions_after a xs) later))) (other_by s a xs apart)
    ∙ goes
    ∙ ap (λ (t : List ℕ). frames_held (with_more b t)) (sym (other_joined s a later apart))

data_goes : (s : ℕ) (bytes : List ℕ) (later : List Arrival) (who : Who) (b : SessionBytes) (xs : List Session) → session_at xs s ≡ session.Open who b
    → GoesOnAs s (with_more b bytes) (sessions_after (Data s bytes) xs) later → GoesOnAs s b xs (Data s bytes ∷ later)
data_goes s bytes later who b xs is goes =
    let ys : List Session = sessions_after (Data s bytes) xs in
    let new : own_frames s (events_by (Data s bytes) xs) ≡ frames_held (with_more (settled b) bytes) =
    ap (own_frames s) (data_events s bytes xs) ∙ ap (λ (x : Session). own_frames s (session_events s (with_data (settled_session x) bytes))) is ∙ own_bytes s (with_more (settled b) bytes)
    in
    ap (λ (fs : List Frame). frames_held b ++ fs) (own_joined s (events_by (Data s bytes) xs) (events_along ys later))
    ∙ ap (λ (fs : List Frame). frames_held b ++ (fs ++ own_frames s (events_along ys later))) new
    ∙ sym (append_assoc (frames_held b) (frames_held (with_more (settled b) bytes)) (own_frames s (events_along ys later)))
    ∙ ap (λ (fs : List Frame). fs ++ own_frames s (events_along ys later)) (sym (goes_on b bytes).frames)
    ∙ goes
    ∙ ap frames_held (more_twice b bytes (joined s later))
    ∙ ap (λ (t : List ℕ). frames_held (with_more b t)) (sym (own_data s bytes later))

close_goes : (s : ℕ) (later : List Arrival) (b : SessionBytes) (xs : List Session) → NothingMore s (sessions_after (Close s) xs) later → GoesOnAs s b xs (Close s ∷ later)
close_goes s later b xs none =
    ap (λ (fs : List Frame). frames_held b ++ fs) none.0 ∙ append-nil (frames_held b) ∙ ap frames_held (sym (no_more b)) ∙ ap (λ (t : List ℕ). frames_held (with_more b t)) (sym none.1)

of_open : (later : List Arrival) (s : ℕ) (who : Who) (b : SessionBytes) (xs : List Session) → length xs ≡ 256 → session_at xs s ≡ session.Open who b → AreAllowed (map stage_of xs) later → GoesOnAs s b xs later
of_open [] s who b xs count is allowed = append-nil (frames_held b) ∙ ap frames_held (sym (no_more b))
of_open (Open t by ∷ later) s who b xs count is allowed =
    elim (cases_eq t s) [
      | inl e ↦
          let st : stage_at (map stage_of xs) t ≡ Opened = stage_is xs t ∙ ap (λ (n : ℕ). stage_of (session_at xs n)) e ∙ ap stage_of is in
          let no : Opened ≡ Unopened = sym st ∙ allowed.0.2 in
          absurd cc
      | inr apart ↦
          other_goes s (Open t by) later b xs apart
          (of_open later s who b (sessions_after (Open t by) xs) (same_count (Open t by) xs 256 count) (other_after s (Open t by) xs apart ∙ is) (allowed_behind (Open t by) later xs allowed))
    ]
of_open (Data t bytes ∷ later) s who b xs count is allowed =
    elim (cases_eq t s) [
      | inl e ↦
          let within : s < length xs = omega (arith, allowed.0.0, e, count) in
          let there : session_at (sessions_after (Data s bytes) xs) s ≡ session.Open who (with_more b bytes) =
          get_or-set_same xs s (with_data (session_at xs s) bytes) session.Unopened within ∙ ap (λ (x : Session). with_data x bytes) is
          in
          let behind = subst (λ (n : ℕ). AreAllowed (map stage_of (sessions_after (Data n bytes) xs)) later) e (allowed_behind (Data t bytes) later xs allowed) in
          subst (λ (n : ℕ). GoesOnAs s b xs (Data n bytes ∷ later)) (sym e)
          (data_goes s bytes later who b xs is (of_open later s who (with_more b bytes) (sessions_after (Data s bytes) xs) (same_count (Data s bytes) xs 256 count) there behind))
      | inr apart ↦
          other_goes s (Data t bytes) later b xs apart
          (of_open later s who b (sessions_after (Data t bytes) xs) (same_count (Data t bytes) xs 256 count) (other_after s (Data t bytes) xs apart ∙ is) (allowed_behind (Data t bytes) later xs allowed))
    ]
of_open (Close t ∷ later) s who b xs count is allowed =
    elim (cases_eq t s) [
      | inl e ↦
          let within : s < length xs = omega (arith, allowed.0.0, e, count) in
          let there : session_at (sessions_after (Close s) xs) s ≡ session.Closed = get_or-set_same xs s session.Closed session.Unopened within in
          let behind = subst (λ (n : ℕ). AreAllowed (map stage_of (sessions_after (Close n) xs)) later) e (allowed_behind (Close t) later xs allowed) in
          subst (λ (n : ℕ). GoesOnAs s b xs (Close n ∷ later)) (sym e) (close_goes s later b xs (of_closed later s (sessions_after (Close s) xs) there behind))
      | inr apart ↦
          other_goes s (Close t) later b xs apart
          (of_open later s who b (sessions_after (Close t) xs) (same_count (Close t) xs 256 count) (other_after s (Close t) xs apart ∙ is) (allowed_behind (Close t) later xs allowed))
    ]

-- ---- a session that is not opened yet

abbrev pub ComesAs : ℕ → List Session → List Arrival → Type 0
ComesAs s xs later = own_frames s (events_along xs later) ≡ frames_of (joined s later)

other_comes : (s : ℕ) (a : Arrival) (later : List Arrival) (xs : List Session) → (named a ≡ s → ⊥) → ComesAs s (sessions_after a xs) later → ComesAs s xs (a ∷ later)
other_comes s a later xs apart comes =
    own_joined s (events_by a xs) (events_along (sessions_after a xs) later)
    ∙ ap (λ (fs : List Frame). fs ++ own_frames s (events_along (sessions_after a xs) later)) (other_by s a xs apart)
    ∙ comes
    ∙ ap frames_of (sym (other_joined s a later apart))

not_yet : (s t : ℕ) (xs : List Session) → session_at xs s ≡ session.Unopened → stage_at (map stage_of xs) t ≡ Opened → t ≡ s → ⊥
not_yet s t xs is opened e =
    let st : stage_at (map stage_of xs) t ≡ Unopened = stage_is xs t ∙ ap (λ (n : ℕ). stage_of (session_at xs n)) e ∙ ap stage_of is in
    let no : Unopened ≡ Opened = sym st ∙ opened in
    absurd cc

of_unopened : (later : List Arrival) (s : ℕ) (xs : List Session) → length xs ≡ 256 → session_at xs s ≡ session.Unopened → AreAllowed (map stage_of xs) later → ComesAs s xs later
of_unopened [] s xs count is allowed = refl
of_unopened (Open t by ∷ later) s xs count is allowed =
    elim (cases_eq t s) [
      | inl e ↦
          let within : s < length xs = omega (arith, allowed.0.0, e, count) in
          let there : session_at (sessions_after (Open s by) xs) s ≡ session.Open by no_bytes = get_or-set_same xs s (session.Open by no_bytes) session.Unopened within in
          let behind = subst (λ (n : ℕ). AreAllowed (map stage_of (sessions_after (Open n by) xs)) later) e (allowed_behind (Open t by) later xs allowed) in
          subst (λ (n : ℕ). ComesAs s xs (Open n by ∷ later)) (sym e) (of_open later s by no_bytes (sessions_after (Open s by) xs) (same_count (Open s by) xs 256 count) there behind)
      | inr apart ↦
          other_comes s (Open t by) later xs apart
          (of_unopened later s (sessions_after (Open t by) xs) (same_count (Open t by) xs 256 count) (other_after s (Open t by) xs apart ∙ is) (allowed_behind (Open t by) later xs allowed))
    ]
of_unopened (Data t bytes ∷ later) s xs count is allowed =
    let apart = not_yet s t xs is allowed.0.2 in
    other_comes s (Data t bytes) later xs apart
    (of_unopened later s (sessions_after (Data t bytes) xs) (same_count (Data t bytes) xs 256 count) (other_after s (Data t bytes) xs apart ∙ is) (allowed_behind (Data t bytes) later xs allowed))
of_unopened (Close t ∷ later) s xs count is allowed =
    let apart = not_yet s t xs is allowed.0.1 in
    other_comes s (Close t) later xs apart
    (of_unopened later s (sessions_after (Close t) xs) (same_count (Close t) xs 256 count) (other_after s (Close t) xs apart ∙ is) (allowed_behind (Close t) later xs allowed))

-- ---- records in order

in_order : (xs : List Session) (first later : List Arrival) → events_along xs (first ++ later) ≡ events_along xs first ++ events_along (sessions_along xs first) later
in_order xs [] later = refl
in_order xs (a ∷ first) later =
    ap (λ (es : List Event). events_by a xs ++ es) (in_order (sessions_after a xs) first later)
    ∙ sym (append_assoc (events_by a xs) (events_along (sessions_after a xs) first) (events_along (sessions_along (sessions_after a xs) first) later))

allowed_front : (stages : List Stage) (first later : List Arrival) → AreAllowed stages (first ++ later) → AreAllowed stages first
allowed_front stages [] later allowed = tt
allowed_front stages (a ∷ first) later allowed = (allowed.0, allowed_front (stages_after a stages) first later allowed.1)

each_session : (arrivals : List Arrival) (s : ℕ) → AreAllowed no_sessions arrivals → ComesAs s unopened arrivals
each_session arrivals s allowed = of_unopened arrivals s unopened refl (unopened_at 256 s) allowed

pub completes_by : (first later : List Arrival) → AreAllowed no_sessions (first ++ later) → CompletesBy first later
completes_by first later allowed =
    record {
      each = λ s. each_session first s (allowed_front no_sessions first later allowed);
      all = λ s. each_session (first ++ later) s allowed;
      order = in_order unopened first later;
    }
