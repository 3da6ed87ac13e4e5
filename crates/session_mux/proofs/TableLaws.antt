-- The events of what all sessions hold, where at most one has any.
use Rattle.std.proofs.Common.{◌≡◌, ℕ, zero, suc, ◌+◌, ◌<◌, ◌≤◌, List, [], ◌∷◌, ◌++◌, length, set, get_or, replicate, Option, None, Some, refl, sym, ap, subst, ◌∙◌, inl, inr, arith}
use Rattle.std.proofs.lemmas.Bool.{cases_eq}
use Rattle.std.proofs.lemmas.List.{append-nil, length-append, get_or-set_same, get_or-set_other, set-get_or}
use Rattle.std.proofs.Math.Seq.{map-set_same}
use Rattle.channel_frame.specs.declared.frames.FrameFault.{FrameFault}
use Rattle.channel_frame.specs.SessionBytes.{held_with}
use Rattle.session_mux.specs.declared.events.Event.{Event}
use Rattle.session_mux.specs.declared.sessions.Session.{Session}
use Rattle.session_mux.specs.declared.sessions.Session.TheVariants as session
use Rattle.session_mux.specs.Completion.{session_at, session_events, settled_session, with_data, events_held}
use Rattle.session_mux.specs.SessionSteps.{taken, GivesEvent, SessionsGive, IsQuietBut}

-- no session has an event
abbrev pub IsQuietFrom : ℕ → List Session → Type 0
IsQuietFrom k sessions = (s : ℕ) → session_events (k + s) (session_at sessions s) ≡ []

pub none_before : {A : Type 0} (x y z : List A) → x ≡ [] → y ≡ z → x ++ y ≡ z
none_before x y z p q = cc

pub none_each : {A : Type 0} (x y : List A) → x ++ y ≡ [] → (x ≡ []) × (y ≡ [])
none_each [] y e = (refl, e)
none_each (a ∷ x) y e = absurd cc

from_next : (k s : ℕ) (x : Session) → session_events (k + suc s) x ≡ session_events (suc k + s) x
from_next k s x =
    let e : k + suc s ≡ suc k + s = omega arith in
    ap (λ (n : ℕ). session_events n x) e

first_is : (k : ℕ) (x : Session) → session_events (k + 0) x ≡ session_events k x
first_is k x =
    let e : k + 0 ≡ k = omega arith in
    ap (λ (n : ℕ). session_events n x) e

pub quiet_held : (k : ℕ) (sessions : List Session) → IsQuietFrom k sessions → events_held k sessions ≡ []
quiet_held k [] quiet = refl
quiet_held k (x ∷ sessions) quiet =
    none_before (session_events k x) (events_held (suc k) sessions) [] (sym (first_is k x) ∙ quiet 0) (quiet_held (suc k) sessions (λ s. sym (from_next k s (session_at sessions s)) ∙ quiet (suc s)))

-- and conversely
pub held_quiet : (k : ℕ) (sessions : List Session) → events_held k sessions ≡ [] → IsQuietFrom k sessions
held_quiet k [] none s = refl
held_quiet k (x ∷ sessions) none zero = first_is k x ∙ (none_each (session_events k x) (events_held (suc k) sessions) none).0
held_quiet k (x ∷ sessions) none (suc s) =
    from_next k s (session_at sessions s) ∙ held_quiet (suc k) sessions (none_each (session_events k x) (events_held (suc k) sessions) none).1 s

-- one session alone may have events
pub held_of_one : (k r : ℕ) (sessions : List Session) → ((s : ℕ) → (s ≡ r → ⊥) → session_events (k + s) (session_at sessions s) ≡ [])
    → events_held k sessions ≡ session_events (k + r) (session_at sessions r)
held_of_one k r [] quiet = refl
held_of_one k zero (x ∷ sessions) quiet =
    let others : events_held (suc k) sessions ≡ [] = quiet_held (suc k) sessions (λ s. sym (from_next k s (session_at sessions s)) ∙ quiet (suc s) (λ e. cc)) in
    ap (λ (es : List Event). session_events k x ++ es) others ∙ append-nil (session_events k x) ∙ sym (first_is k x)
held_of_one k (suc r) (x ∷ sessions) quiet =
    none_before (session_events k x) (events_held (suc k) sessions) (session_events (k + suc r) (session_at sessions r)) (sym (first_is k x) ∙ quiet 0 (λ e. cc))
    (held_of_one (suc k) r sessions (λ s other. sym (from_next k s (session_at sessions s)) ∙ quiet (suc s) (λ e. other cc)) ∙ sym (from_next k r (session_at sessions r)))

pub from_zero : (s : ℕ) (x : Session) → session_events (0 + s) x ≡ session_events s x
from_zero s x =
    let e : 0 + s ≡ s = omega arith in
    ap (λ (n : ℕ). session_events n x) e

-- at most one session has events: all events are its own
pub held_of_ready : (r : ℕ) (sessions : List Session) → IsQuietBut r sessions → events_held 0 sessions ≡ session_events r (session_at sessions r)
held_of_ready r sessions quiet = held_of_one 0 r sessions (λ s other. from_zero s (session_at sessions s) ∙ quiet s other) ∙ from_zero r (session_at sessions r)

-- no session is open at the start
pub unopened_at : (n s : ℕ) → get_or (replicate n session.Unopened) s session.Unopened ≡ session.Unopened
unopened_at zero s = refl
unopened_at (suc n) zero = refl
unopened_at (suc n) (suc s) = unopened_at n s

pub unopened_quiet : (n r : ℕ) → IsQuietBut r (replicate n session.Unopened)
unopened_quiet n r s other = ap (session_events s) (unopened_at n s)

-- ---- one session is set

pub set_other : (sessions : List Session) (r s : ℕ) (x : Session) → (s ≡ r → ⊥) → session_at (set sessions r x) s ≡ session_at sessions s
set_other sessions r s x other = get_or-set_other sessions r s x session.Unopened other

-- where all were quiet, one session may be set
pub quiet_but_set : (r : ℕ) (x : Session) (sessions : List Session) → events_held 0 sessions ≡ [] → IsQuietBut r (set sessions r x)
quiet_but_set r x sessions none s other = ap (session_events s) (set_other sessions r s x other) ∙ sym (from_zero s (session_at sessions s)) ∙ held_quiet 0 sessions none s

-- one with no event keeps all quiet
pub quiet_set : (r t : ℕ) (x : Session) (sessions : List Session) → r < length sessions → session_events r x ≡ [] → IsQuietBut t sessions → IsQuietBut t (set sessions r x)
quiet_set r t x sessions within none quiet s other =
    elim (cases_eq s r) [
      | inl same ↦ ap (λ (n : ℕ). session_events n (session_at (set sessions r x) n)) same ∙ ap (session_events r) (get_or-set_same sessions r x session.Unopened within) ∙ none
      | inr apart ↦ ap (session_events s) (set_other sessions r s x apart) ∙ quiet s other
    ]

pub stays_quiet_but : (r : ℕ) (x : Session) (sessions : List Session) → IsQuietBut r sessions → IsQuietBut r (set sessions r x)
stays_quiet_but r x sessions quiet s other = ap (session_events s) (set_other sessions r s x other) ∙ quiet s other

taken_set : (r : ℕ) (x : Session) (sessions : List Session) → r < length sessions → taken x ≤ taken (session_at sessions r)
    → (s : ℕ) → taken (session_at (set sessions r x) s) ≤ taken (session_at sessions s)
taken_set r x sessions within few s =
    elim (cases_eq s r) [
      | inl same ↦
          let a : taken (session_at (set sessions r x) r) ≡ taken x = ap taken (get_or-set_same sessions r x session.Unopened within) in
          let b : taken (session_at (set sessions r x) r) ≤ taken (session_at sessions r) = omega (arith, a, few) in
          subst (λ (n : ℕ). taken (session_at (set sessions r x) n) ≤ taken (session_at sessions n)) (sym same) b
      | inr apart ↦
          let a : taken (session_at (set sessions r x) s) ≡ taken (session_at sessions s) = ap taken (set_other sessions r s x apart) in
          omega (arith, a)
    ]

-- what the one session gives, all give
pub gives_set : (r : ℕ) (x : Session) (sessions : List Session) (o : Option Event) → r < length sessions → IsQuietBut r sessions
    → GivesEvent r (session_at sessions r) x o → SessionsGive sessions (set sessions r x) o
gives_set r x sessions None within quiet gives = (
  held_of_ready r sessions quiet ∙ gives.0,
  ap (set sessions r) gives.1 ∙ set-get_or sessions r session.Unopened,
)
gives_set r x sessions (Some e) within quiet gives =
    let there : session_at (set sessions r x) r ≡ x = get_or-set_same sessions r x session.Unopened within in
    let after : events_held 0 (set sessions r x) ≡ session_events r x = held_of_ready r (set sessions r x) (stays_quiet_but r x sessions quiet) ∙ ap (session_events r) there in (
      held_of_ready r sessions quiet ∙ gives.0 ∙ ap (λ (es : List Event). e ∷ es) (sym after),
      sym (map-set_same settled_session sessions r x session.Unopened (sym gives.1)),
      taken_set r x sessions within gives.2,
    )

-- ---- how many bytes of each session came

-- at most so many bytes came of each session
abbrev pub AtMost : List Session → ℕ → Type 0
AtMost sessions most = (s : ℕ) → taken (session_at sessions s) ≤ most

pub at_most_set : (r : ℕ) (x : Session) (sessions : List Session) (most : ℕ) → r < length sessions → taken x ≤ most → AtMost sessions most → AtMost (set sessions r x) most
at_most_set r x sessions most within few all s =
    elim (cases_eq s r) [
      | inl same ↦
          let a : taken (session_at (set sessions r x) r) ≡ taken x = ap taken (get_or-set_same sessions r x session.Unopened within) in
          let b : taken (session_at (set sessions r x) r) ≤ most = omega (arith, a, few) in
          subst (λ (n : ℕ). taken (session_at (set sessions r x) n) ≤ most) (sym same) b
      | inr apart ↦
          let a : taken (session_at (set sessions r x) s) ≡ taken (session_at sessions s) = ap taken (set_other sessions r s x apart) in
          omega (arith, a, all s)
    ]

pub at_most_more : (sessions : List Session) (most more : ℕ) → most ≤ more → AtMost sessions most → AtMost sessions more
at_most_more sessions most more le all s = omega (arith, all s)

taken_bytes : (g : ℕ) (h : List ℕ) (o : Option FrameFault) (more : List ℕ) → (held_with o g h more).given + length (held_with o g h more).held ≤ g + length h + length more
taken_bytes g h None more = omega (arith, length-append h more)
taken_bytes g h (Some e) more = omega arith

pub taken_data : (x : Session) (more : List ℕ) → taken (with_data x more) ≤ taken x + length more
taken_data session.Unopened more = omega arith
taken_data (session.Open who b) more = taken_bytes b.given b.held b.fault more
taken_data session.Closed more = omega arith

pub at_most_data : (r : ℕ) (bytes : List ℕ) (sessions : List Session) (most n : ℕ) → r < length sessions → length bytes ≤ n → AtMost sessions most
    → AtMost (set sessions r (with_data (session_at sessions r) bytes)) (most + n)
at_most_data r bytes sessions most n within few all =
    at_most_set r (with_data (session_at sessions r) bytes) sessions (most + n) within (omega (arith, taken_data (session_at sessions r) bytes, all r, few))
    (at_most_more sessions most (most + n) (omega arith) all)

pub at_most_start : (n most : ℕ) → AtMost (replicate n session.Unopened) most
at_most_start n most s =
    let a : taken (session_at (replicate n session.Unopened) s) ≡ 0 = ap taken (unopened_at n s) in
    omega (arith, a)
