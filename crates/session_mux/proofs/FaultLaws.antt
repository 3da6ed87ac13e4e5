-- A fault of plain input is its last event: once it was given, its session has met it.
use Rattle.std.specs.Prelude.{true, false, ◌||◌, IsSome}
use Rattle.std.specs.List.{list_any}
use Rattle.std.proofs.lemmas.Bool.{cases_Bool}
use Rattle.std.proofs.Common.{◌≡◌, ℕ, List, [], ◌∷◌, ◌++◌, length, drop, map, Option, None, Some, refl, sym, ap, ◌∙◌, inl, inr, append-nil}
use Rattle.channel_frame.specs.declared.frames.Frame.{Frame}
use Rattle.channel_frame.specs.declared.frames.FrameFault.{FrameFault}
use Rattle.channel_frame.specs.StreamReading.{frames_of}
use Rattle.channel_frame.specs.SessionBytes.{SessionBytes, with_more, frames_held, settled, fault_unless, fault_held}
use Rattle.ctrl_model.specs.declared.kinds.Who.{Who}
use Rattle.ctrl_model.specs.declared.kinds.Who.TheVariants.{Admin}
use Rattle.session_mux.specs.declared.events.Event.{Event}
use Rattle.session_mux.specs.declared.events.Event.TheVariants as event
use Rattle.session_mux.specs.declared.sessions.Form.{Form}
use Rattle.session_mux.specs.declared.sessions.Form.TheVariants.{Plain, Trace}
use Rattle.session_mux.specs.declared.sessions.Session.{Session}
use Rattle.session_mux.specs.declared.sessions.Session.TheVariants as session
use Rattle.session_mux.specs.Completion.{Standing, session_at, start_of, fed, with_data, settled_session, ended, session_events, bytes_events, fault_met, is_fault, events_held, events_of, end_of, GoesTo}
use Rattle.session_mux.proofs.EventLaws.{held_fault}
use Rattle.session_mux.proofs.StepLaws.{no_more_input}
use Rattle.session_mux.proofs.TableLaws.{none_each}

-- All bytes of plain input.
abbrev pub all_of : List ℕ → SessionBytes
all_of used = record { given = 0; held = used; fault = None }

pub plain_events : (used : List ℕ) → events_of (fed (start_of Plain) used) ≡ map (event.Arrived 0) (frames_of used) ++ ended 0 (fault_held (all_of used))
plain_events used = append-nil (map (event.Arrived 0) (frames_of used) ++ ended 0 (fault_held (all_of used)))

-- what comes behind the fault of a session's events is nothing
behind_fault : (fs : List Frame) (o : Option (FrameFault × ℕ)) (xs ys : List Event) → map (event.Arrived 0) fs ++ ended 0 o ≡ xs ++ ys → list_any is_fault xs ≡ true
    → (ys ≡ []) × (o ≡ None → ⊥)
behind_fault fs o [] ys e told = absurd cc
behind_fault [] None (x ∷ xs) ys e told = absurd cc
behind_fault [] (Some f) (x ∷ xs) ys e told =
    let rest : xs ++ ys ≡ [] = cc in
    ((none_each xs ys rest).1, λ none. cc)
behind_fault (f ∷ fs) o (x ∷ xs) ys e told =
    let first : event.Arrived 0 f ≡ x = cc in
    let rest : map (event.Arrived 0) fs ++ ended 0 o ≡ xs ++ ys = cc in
    behind_fault fs o xs ys rest (ap (λ (y : Event). is_fault y || list_any is_fault xs) first ∙ told)

-- ---- a session that has given all its events has met its fault

no_fault_of : (o : Option (FrameFault × ℕ)) → ended 0 o ≡ [] → o ≡ None
no_fault_of None e = refl
no_fault_of (Some f) e = absurd cc

all_given : (xs ys : List Event) → xs ≡ [] → drop (length xs) ys ≡ [] → ys ≡ []
all_given [] ys e none = none
all_given (x ∷ xs) ys e none = absurd cc

unmet_fault : (b all : SessionBytes) (more : List ℕ) → b.fault ≡ None → all.fault ≡ None → settled (with_more b more) ≡ settled all → fault_held (with_more b more) ≡ fault_held all
unmet_fault b all more none none_all same =
    let unmet : (with_more b more).fault ≡ None = held_fault b.given b.held b.fault more ∙ none in
    ap (λ (o : Option FrameFault). fault_unless o (settled (with_more b more))) unmet ∙ ap (fault_unless None) same
    ∙ sym (ap (λ (o : Option FrameFault). fault_unless o (settled all)) none_all)

open_met_at : (all b : SessionBytes) (o : Option FrameFault) (more : List ℕ) → b.fault ≡ o → all.fault ≡ None → (fault_held all ≡ None → ⊥) → settled (with_more b more) ≡ settled all
    → bytes_events 0 (with_more b more) ≡ [] → IsSome o
open_met_at all b (Some d) more is none some same quiet = refl
open_met_at all b None more is none some same quiet =
    let held : fault_held (with_more b more) ≡ fault_held all = unmet_fault b all more is none same in
    let frames : List Event = map (event.Arrived 0) (frames_held (with_more b more)) in
    absurd (some (sym held ∙ no_fault_of (fault_held (with_more b more)) (none_each frames (ended 0 (fault_held (with_more b more))) quiet).1))

same_open : {v w : Who} {b c : SessionBytes} → session.Open v b ≡ session.Open w c → b ≡ c
same_open e = cc

-- where more bytes of it make it stand as these do
session_met : (all : SessionBytes) (x : Session) (more : List ℕ) → all.fault ≡ None → (fault_held all ≡ None → ⊥) → settled_session (with_data x more) ≡ session.Open Admin (settled all)
    → session_events 0 (with_data x more) ≡ [] → IsSome (fault_met x)
session_met all session.Unopened more none some same quiet = absurd cc
session_met all (session.Open who b) more none some same quiet = open_met_at all b b.fault more refl none some (same_open same) quiet
session_met all session.Closed more none some same quiet = absurd cc

standing_met : (used : List ℕ) (form : Form) (input : List ℕ) (before : ℕ) (xs : List Session) → (fault_held (all_of used) ≡ None → ⊥)
    → end_of (fed (start_of Plain) used) ≡ end_of (record { form = form; input = input; before = before; sessions = xs })
    → events_of (record { form = form; input = input; before = before; sessions = xs }) ≡ [] → IsSome (fault_met (session_at xs 0))
standing_met used Trace input before xs some same quiet = absurd (let form : Plain ≡ Trace = ap (λ (st : Standing). st.form) same in cc)
standing_met used Plain input before [] some same quiet =
    let there : session.Open Admin (settled (all_of used)) ≡ session.Unopened = ap (λ (st : Standing). session_at st.sessions 0) same in
    absurd cc
standing_met used Plain input before (x ∷ xs) some same quiet =
    let there : session.Open Admin (settled (all_of used)) ≡ settled_session (with_data x input) = ap (λ (st : Standing). session_at st.sessions 0) same in
    let behind : List Event = drop (length (session_events 0 x)) (session_events 0 (with_data x input)) in
    let two = none_each (session_events 0 x ++ events_held 1 xs) (behind ++ []) quiet in
    let first : session_events 0 x ≡ [] = (none_each (session_events 0 x) (events_held 1 xs) two.0).0 in
    let later : behind ≡ [] = (none_each behind [] two.1).0 in
    session_met (all_of used) x input refl some (sym there) (all_given (session_events 0 x) (session_events 0 (with_data x input)) first later)

-- ---- a fault was given

pub given_fault : (used : List ℕ) (mid : Standing) (answered : List Event) → GoesTo (fed (start_of Plain) used) mid answered → list_any is_fault answered ≡ true
    → (events_of mid ≡ []) × IsSome (fault_met (session_at mid.sessions 0))
given_fault used mid answered goes told =
    let st : Standing = fed (start_of Plain) used in
    let events : events_of st ≡ answered ++ events_of mid = ap events_of (sym (no_more_input st)) ∙ goes.events [] ∙ ap (λ (x : Standing). answered ++ events_of x) (no_more_input mid) in
    let ends : end_of st ≡ end_of mid = ap end_of (sym (no_more_input st)) ∙ goes.ends [] ∙ ap end_of (no_more_input mid) in
    let behind = behind_fault (frames_of used) (fault_held (all_of used)) answered (events_of mid) (sym (plain_events used) ∙ events) told in
    (behind.0, standing_met used mid.form mid.input mid.before mid.sessions behind.1 ends behind.0)

no_some : (o : Option FrameFault) → o ≡ None → IsSome o → ⊥
no_some None none some = cc
no_some (Some d) none some = cc

-- so where it has met none, no fault was given
pub no_fault_given : (used : List ℕ) (mid : Standing) (answered : List Event) → GoesTo (fed (start_of Plain) used) mid answered → fault_met (session_at mid.sessions 0) ≡ None
    → list_any is_fault answered ≡ false
no_fault_given used mid answered goes unmet =
    elim (cases_Bool (list_any is_fault answered)) [
      | inl told ↦ absurd (no_some (fault_met (session_at mid.sessions 0)) unmet (given_fault used mid answered goes told).1)
      | inr none ↦ none
    ]
