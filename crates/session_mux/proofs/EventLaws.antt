-- The events of one session's bytes, and what more bytes do to them.
use Rattle.std.proofs.Common.{◌≡◌, ℕ, ◌+◌, ◌≤◌, List, [], ◌∷◌, ◌++◌, length, drop, map, true, false, Option, None, Some, refl, sym, ap, subst, ◌∙◌, inl, inr, append_assoc, arith}
use Rattle.std.specs.Prelude.{is_some}
use Rattle.std.proofs.lemmas.List.{append-nil, length-drop, map-append}
use Rattle.channel_frame.specs.declared.frames.Frame.{Frame}
use Rattle.channel_frame.specs.declared.frames.FrameFault.{FrameFault}
use Rattle.channel_frame.specs.declared.frames.Front.{Front}
use Rattle.channel_frame.specs.AnnouncedFrames.{IsWholeFront}
use Rattle.channel_frame.specs.declared.frames.Front.TheVariants.{Short, Bad, Whole}
use Rattle.channel_frame.specs.StreamReading.{front}
use Rattle.channel_frame.specs.SessionBytes.{SessionBytes, with_more, held_with, frames_held, left_unless, settled, fault_held}
use Rattle.channel_frame.proofs.FrontLaws.{whole_within}
use Rattle.channel_frame.proofs.SessionLaws.{goes_on, fault_on, FaultOn, more_twice, no_more, IsQuiet, quiet_short, met_nothing, settled_quiet, quiet_fault, gives_frame, tells_fault, short_few}
use Rattle.session_mux.specs.declared.events.Event.{Event}
use Rattle.session_mux.specs.declared.events.Event.TheVariants as event
use Rattle.session_mux.specs.declared.sessions.Session.{Session}
use Rattle.session_mux.specs.declared.sessions.Session.TheVariants as session
use Rattle.session_mux.specs.Completion.{ended, bytes_events, bytes_len, len_unless, session_events, settled_session, with_data, fault_met, stage_of, rest_len}
use Rattle.frame_stream.specs.StreamSteps.{fault_number, TakesFrame, MeetsFault, HoldsUnfinished, TellsFault}
use Rattle.session_mux.specs.SessionSteps.{StreamEvent, TakesBytes, HasWhole}

-- ---- one step

-- a quiet session has no event
pub quiet_events : (s : ℕ) (b : SessionBytes) → IsQuiet b → bytes_events s b ≡ []
quiet_events s b quiet = ap (λ (fs : List Frame). map (event.Arrived s) fs ++ ended s (fault_held b)) quiet.frames ∙ ap (ended s) (quiet_fault b quiet)

-- nor has one whose fault was met
pub events_met : (s : ℕ) (b : SessionBytes) (e : FrameFault) → b.fault ≡ Some e → bytes_events s b ≡ []
events_met s b e some =
    let none = met_nothing b e some in
    ap (λ (fs : List Frame). map (event.Arrived s) fs ++ ended s (fault_held b)) none.0 ∙ ap (ended s) none.1

pub frame_event : (s : ℕ) (old new : SessionBytes) (f : Frame) → TakesFrame old new f → StreamEvent s old new (Some (event.Arrived s f))
frame_event s old new f takes =
    let after : SessionBytes = record { given = old.given + takes.len; held = drop takes.len old.held; fault = None } in
    let g = gives_frame old f takes.len takes.none takes.there in
    let long = whole_within old.held f takes.len takes.there in
    let events : bytes_events s old ≡ event.Arrived s f ∷ bytes_events s after =
    ap (λ (fs : List Frame). map (event.Arrived s) fs ++ ended s (fault_held old)) g.frames
    ∙ ap (λ (o : Option (FrameFault × ℕ)). event.Arrived s f ∷ (map (event.Arrived s) (frames_held after) ++ ended s o)) g.fault
    in
    let few : after.given + length after.held ≤ old.given + length old.held = omega (arith, length-drop takes.len old.held, long.1) in
    subst (λ (x : SessionBytes). StreamEvent s old x (Some (event.Arrived s f))) (sym takes.after) (events, g.left, few)

pub fault_event : (s : ℕ) (old new : SessionBytes) (e : FrameFault) (at : ℕ) → MeetsFault old new e at → StreamEvent s old new (Some (event.Ended s (fault_number e) at))
fault_event s old new e at meets =
    let after : SessionBytes = record { given = old.given; held = []; fault = Some e } in
    let t = tells_fault old e meets.none meets.there in
    let events : bytes_events s old ≡ event.Ended s (fault_number e) old.given ∷ bytes_events s after =
    ap (λ (fs : List Frame). map (event.Arrived s) fs ++ ended s (fault_held old)) t.frames ∙ ap (ended s) t.fault
    in
    let few : after.given + length after.held ≤ old.given + length old.held = omega arith in
    let there : bytes_events s old ≡ event.Ended s (fault_number e) at ∷ bytes_events s after = events ∙ ap (λ (n : ℕ). event.Ended s (fault_number e) n ∷ bytes_events s after) (sym meets.place) in
    subst (λ (x : SessionBytes). StreamEvent s old x (Some (event.Ended s (fault_number e) at))) (sym meets.after) (there, t.left, few)

nothing_at : (s : ℕ) (old : SessionBytes) (o : Option FrameFault) → old.fault ≡ o → (old.fault ≡ None → front old.held ≡ Short) → bytes_events s old ≡ []
nothing_at s old None e short = quiet_events s old (quiet_short old e (short e))
nothing_at s old (Some d) e short = events_met s old d e

pub no_event : (s : ℕ) (old new : SessionBytes) → (new ≡ old) × (old.fault ≡ None → front old.held ≡ Short) → StreamEvent s old new None
no_event s old new h = (nothing_at s old old.fault refl h.1, h.0)

-- a session that met its fault before gives none
pub met_event : (s : ℕ) (old new : SessionBytes) → is_some old.fault ≡ true → new ≡ old → StreamEvent s old new None
met_event s old new some same =
    no_event s old new (
      same,
      λ none.
          let no : is_some old.fault ≡ false = ap is_some none in
          absurd cc,
    )

-- nor does an unfinished frame
pub unfinished_event : (s : ℕ) (old new : SessionBytes) → HoldsUnfinished old new → StreamEvent s old new None
unfinished_event s old new h = no_event s old new (h.same, λ none. h.short)

-- a fault that is told to a session that met none before is its event
pub told_event : (s : ℕ) (old new : SessionBytes) (n at : ℕ) → is_some old.fault ≡ false → TellsFault old new n at → StreamEvent s old new (Some (event.Ended s n at))
told_event s old new n at unmet (e, fault, is, inl m) = subst (λ (k : ℕ). StreamEvent s old new (Some (event.Ended s k at))) (sym is) (fault_event s old new e at m)
told_event s old new n at unmet (e, fault, is, inr m) =
    let some : is_some old.fault ≡ true = ap is_some m.some in
    absurd cc

-- ---- more bytes of a session

two_joined : (a b c d : List Event) → c ≡ [] → (a ++ b) ++ d ≡ (a ++ c) ++ (b ++ d)
two_joined a b c d e = rw e (ap (λ (x : List Event). (x ++ b) ++ d) (sym (append-nil a)) ∙ append_assoc (a ++ []) b d)

kept_joined : (a b c d : List Event) → b ≡ [] → d ≡ [] → (a ++ b) ++ c ≡ (a ++ c) ++ (b ++ d)
kept_joined a b c d p q = rw (p, q) (ap (λ (x : List Event). x ++ c) (append-nil a) ∙ sym (append-nil (a ++ c)))

more_events_at : (s : ℕ) (b : SessionBytes) (more : List ℕ) → FaultOn b more → bytes_events s (with_more b more) ≡ bytes_events s b ++ bytes_events s (with_more (settled b) more)
more_events_at s b more (inl on) =
    let xs : List Event = map (event.Arrived s) (frames_held b) in
    let ys : List Event = map (event.Arrived s) (frames_held (with_more (settled b) more)) in
    ap (λ (fs : List Frame). map (event.Arrived s) fs ++ ended s (fault_held (with_more b more))) (goes_on b more).frames
    ∙ ap (λ (es : List Event). es ++ ended s (fault_held (with_more b more))) (map-append (event.Arrived s) (frames_held b) (frames_held (with_more (settled b) more)))
    ∙ ap (λ (o : Option (FrameFault × ℕ)). (xs ++ ys) ++ ended s o) on.1
    ∙ two_joined xs ys (ended s (fault_held b)) (ended s (fault_held (with_more (settled b) more))) (ap (ended s) on.0)
more_events_at s b more (inr on) =
    let xs : List Event = map (event.Arrived s) (frames_held b) in
    let ys : List Event = map (event.Arrived s) (frames_held (with_more (settled b) more)) in
    ap (λ (fs : List Frame). map (event.Arrived s) fs ++ ended s (fault_held (with_more b more))) (goes_on b more).frames
    ∙ ap (λ (es : List Event). es ++ ended s (fault_held (with_more b more))) (map-append (event.Arrived s) (frames_held b) (frames_held (with_more (settled b) more)))
    ∙ ap (λ (o : Option (FrameFault × ℕ)). (xs ++ ys) ++ ended s o) on.0
    ∙ kept_joined xs ys (ended s (fault_held b)) (ended s (fault_held (with_more (settled b) more))) (ap (map (event.Arrived s)) on.2) (ap (ended s) on.1)

pub more_events : (s : ℕ) (x : Session) (more : List ℕ) → session_events s (with_data x more) ≡ session_events s x ++ session_events s (with_data (settled_session x) more)
more_events s session.Unopened more = refl
more_events s (session.Open who b) more = more_events_at s b more (fault_on b more)
more_events s session.Closed more = refl

pub settled_more : (x : Session) (more : List ℕ) → settled_session (with_data x more) ≡ settled_session (with_data (settled_session x) more)
settled_more session.Unopened more = refl
settled_more (session.Open who b) more = ap (session.Open who) (goes_on b more).left
settled_more session.Closed more = refl

pub settled_twice : (x : Session) → settled_session (settled_session x) ≡ settled_session x
settled_twice session.Unopened = refl
settled_twice (session.Open who b) = ap (session.Open who) (settled_quiet b).left
settled_twice session.Closed = refl

pub data_twice : (x : Session) (a b : List ℕ) → with_data (with_data x a) b ≡ with_data x (a ++ b)
data_twice session.Unopened a b = refl
data_twice (session.Open who bytes) a b = ap (session.Open who) (more_twice bytes a b)
data_twice session.Closed a b = refl

pub data_none : (x : Session) → with_data x [] ≡ x
data_none session.Unopened = refl
data_none (session.Open who bytes) = ap (session.Open who) (no_more bytes)
data_none session.Closed = refl

pub stage_settled : (x : Session) → stage_of (settled_session x) ≡ stage_of x
stage_settled session.Unopened = refl
stage_settled (session.Open who bytes) = refl
stage_settled session.Closed = refl

pub stage_data : (x : Session) (more : List ℕ) → stage_of (with_data x more) ≡ stage_of x
stage_data session.Unopened more = refl
stage_data (session.Open who bytes) more = refl
stage_data session.Closed more = refl

pub rest_settled : (x : Session) → rest_len (settled_session x) ≡ rest_len x
rest_settled session.Unopened = refl
rest_settled (session.Open who b) = ap (λ (b : SessionBytes). length b.held) (settled_quiet b).left
rest_settled session.Closed = refl

-- ---- what has no event is short

short_at : (s : ℕ) (b : SessionBytes) (at : Front) → b.fault ≡ None → front b.held ≡ at → bytes_events s b ≡ [] → at ≡ Short
short_at s b Short none e quiet = refl
short_at s b (Bad d) none e quiet =
    let t = tells_fault b d none e in
    let some : bytes_events s b ≡ event.Ended s (fault_number d) b.given ∷ [] =
    ap (λ (fs : List Frame). map (event.Arrived s) fs ++ ended s (fault_held b)) t.frames ∙ ap (ended s) t.fault
    in
    absurd cc
short_at s b (Whole f n) none e quiet =
    let g = gives_frame b f n none e in
    let after : SessionBytes = record { given = b.given + n; held = drop n b.held; fault = None } in
    let some : bytes_events s b ≡ event.Arrived s f ∷ (map (event.Arrived s) (frames_held after) ++ ended s (fault_held b)) =
    ap (λ (fs : List Frame). map (event.Arrived s) fs ++ ended s (fault_held b)) g.frames
    in
    absurd cc

-- what is left of a session without a fault that has no event is all of it, and is short
pub left_of_quiet : (s : ℕ) (b : SessionBytes) → b.fault ≡ None → bytes_events s b ≡ [] → (settled b ≡ b) × (length b.held ≤ 1114131)
left_of_quiet s b none quiet =
    let short : front b.held ≡ Short = short_at s b (front b.held) none refl quiet in
    ((quiet_short b none short).left, short_few b.held short)

-- after a fault nothing is left
pub left_of_met : (b : SessionBytes) (e : FrameFault) → b.fault ≡ Some e → length (settled b).held ≡ 0
left_of_met b e some = ap (λ (o : Option FrameFault). length (left_unless o b.given b.held).held) some

few_left : (s : ℕ) (b : SessionBytes) (o : Option FrameFault) → b.fault ≡ o → bytes_events s b ≡ [] → length (settled b).held ≤ 1114131
few_left s b None e quiet =
    let left = left_of_quiet s b e quiet in
    omega (arith, left.1, ap (λ (x : SessionBytes). length x.held) left.0)
few_left s b (Some d) e quiet = omega (arith, left_of_met b d e)

-- ---- how many bytes are held

pub rest_is : (b : SessionBytes) (o : Option FrameFault) (n : ℕ) → b.fault ≡ o → n ≡ length b.held → (is_some b.fault ≡ true → n ≡ 0) → n ≡ bytes_len b
rest_is b None n e held met = held ∙ sym (ap (λ (o : Option FrameFault). len_unless o b.held) e)
rest_is b (Some d) n e held met = met (ap is_some e) ∙ sym (ap (λ (o : Option FrameFault). len_unless o b.held) e)

pub rest_left : (s : ℕ) (b : SessionBytes) (o : Option FrameFault) (n : ℕ) → b.fault ≡ o → n ≡ length b.held → (is_some b.fault ≡ true → n ≡ 0) → bytes_events s b ≡ []
    → (n ≡ length (settled b).held) × (n ≤ 1114131)
rest_left s b None n e held met quiet =
    let left = left_of_quiet s b e quiet in
    (held ∙ sym (ap (λ (x : SessionBytes). length x.held) left.0), omega (arith, held, left.1))
rest_left s b (Some d) n e held met quiet =
    let none : n ≡ 0 = met (ap is_some e) in
    (none ∙ sym (left_of_met b d e), omega (arith, none))

pub few_of_quiet : (s : ℕ) (x : Session) → session_events s x ≡ [] → rest_len x ≤ 1114131
few_of_quiet s session.Unopened quiet = omega arith
few_of_quiet s (session.Open who b) quiet = few_left s b b.fault refl quiet
few_of_quiet s session.Closed quiet = omega arith

-- ---- memory is wanted for an event alone

whole_stands : (bytes : List ℕ) → IsWholeFront bytes → front bytes ≡ Short → ⊥
whole_stands bytes is short =
    let e = sym is.stands ∙ short in
    cc

pub whole_event : (s : ℕ) (x : Session) → HasWhole x → session_events s x ≡ [] → ⊥
whole_event s session.Unopened has quiet = has
whole_event s (session.Open who b) has quiet = whole_stands b.held has.front (short_at s b (front b.held) has.none refl quiet)
whole_event s session.Closed has quiet = has

pub whole_unmet : (x : Session) → HasWhole x → fault_met x ≡ None
whole_unmet session.Unopened has = refl
whole_unmet (session.Open who b) has = has.none
whole_unmet session.Closed has = refl

-- ---- bytes that come meet no fault

pub takes_unmet : (x : Session) → TakesBytes x → fault_met x ≡ None
takes_unmet session.Unopened takes = refl
takes_unmet (session.Open who b) takes = takes
takes_unmet session.Closed takes = refl

pub held_fault : (g : ℕ) (h : List ℕ) (o : Option FrameFault) (more : List ℕ) → (held_with o g h more).fault ≡ o
held_fault g h None more = refl
held_fault g h (Some e) more = refl

pub data_fault : (x : Session) (more : List ℕ) → fault_met (with_data x more) ≡ fault_met x
data_fault session.Unopened more = refl
data_fault (session.Open who b) more = held_fault b.given b.held b.fault more
data_fault session.Closed more = refl
