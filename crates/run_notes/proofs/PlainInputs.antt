-- Plain input is one session: its events, its fault and its rest are those of all its bytes.
use Rattle.std.specs.Prelude.{Bool, true, false, ◌||◌}
use Rattle.std.proofs.Common.{◌≡◌, ℕ, zero, suc, ◌+◌, ◌-◌, List, [], ◌∷◌, ◌++◌, length, map, set, get_or, replicate, Option, None, Some, refl, sym, ap, ◌∙◌, arith}
use Rattle.std.specs.List.{list_any}
use Rattle.std.specs.Option.{option_map}
use Rattle.std.proofs.Math.ListN.{get_or-map}
use Rattle.channel_frame.specs.declared.frames.Frame.{Frame}
use Rattle.channel_frame.specs.declared.frames.FrameFault.{FrameFault}
use Rattle.channel_frame.specs.declared.frames.Front.{Front}
use Rattle.channel_frame.specs.declared.frames.Front.TheVariants.{Short, Bad, Whole}
use Rattle.channel_frame.specs.StreamReading.{front, fault_in, fault_of, frames_of, rest_of}
use Rattle.channel_frame.specs.SessionBytes.{no_bytes, placed, left_at, fault_held}
use Rattle.ctrl_model.specs.declared.kinds.Who.TheVariants.{Admin}
use Rattle.session_mux.specs.declared.events.Event.{Event}
use Rattle.session_mux.specs.declared.events.Event.TheVariants as event
use Rattle.session_mux.specs.declared.sessions.Session.{Session}
use Rattle.session_mux.specs.declared.sessions.Session.TheVariants as session
use Rattle.session_mux.specs.declared.sessions.Form.TheVariants.{Plain}
use Rattle.session_mux.specs.Completion.{unopened, session_at, settled_session, ended, rest_len, begins_bad}
use Rattle.session_mux.proofs.EventLaws.{rest_settled}
use Rattle.session_mux.proofs.FaultLaws.{all_of, plain_events}
use Rattle.session_mux.proofs.TableLaws.{set_other, unopened_at}
use Rattle.run_notes.specs.Inputs.{events_in, end_in, is_fault, is_bad_input, no_counts, rests_along, closed_rests, held_or_closed, rest_at}

-- ---- faults

placed_at : (at : Front) (place : ℕ) (rest : List ℕ) → placed (left_at at place rest).fault (left_at at place rest).given ≡ option_map (λ (e : FrameFault). (e, place)) (fault_in at)
placed_at Short place rest = refl
placed_at (Bad e) place rest = refl
placed_at (Whole f n) place rest = refl

plain_fault : (used : List ℕ) → fault_held (all_of used) ≡ fault_of used
plain_fault used =
    let at : Front = front (rest_of used) in
    let place : ℕ = length used - length (rest_of used) in
    placed_at at (0 + place) (rest_of used)
    ∙ ap (λ (n : ℕ). option_map {T = FrameFault} {U = FrameFault × ℕ} (λ (e : FrameFault). (e, n)) (fault_in at)) (omega arith)

no_fault_so : (fs : List Frame) (o : Option (FrameFault × ℕ)) → list_any is_fault (map (event.Arrived 0) fs ++ ended 0 o) ≡ false → o ≡ None
no_fault_so [] None e = refl
no_fault_so [] (Some f) e = absurd (let is : true ≡ false = e in cc)
no_fault_so (f ∷ fs) o e = no_fault_so fs o e

or_left : (p q : Bool) → (p || q) ≡ false → p ≡ false
or_left true q e = e
or_left false q e = refl

-- An input without a fault has none in its session.
pub plain_good : (used : List ℕ) → is_bad_input Plain used ≡ false → fault_of used ≡ None
plain_good used good =
    let none : list_any is_fault (events_in Plain used) ≡ false = or_left (list_any is_fault (events_in Plain used)) (begins_bad (end_in Plain used)) good in
    sym (plain_fault used) ∙ no_fault_so (frames_of used) (fault_held (all_of used)) (ap (list_any is_fault) (sym (plain_events used)) ∙ none)

-- ---- what is left

-- Where there is no fault, what is held is the rest.
held_at : (at : Front) (place : ℕ) (rest : List ℕ) → fault_in at ≡ None → (left_at at place rest).held ≡ rest
held_at Short place rest none = refl
held_at (Bad e) place rest none = absurd cc
held_at (Whole f n) place rest none = refl

not_placed : (o : Option FrameFault) (place : ℕ) → option_map {T = FrameFault} {U = FrameFault × ℕ} (λ (e : FrameFault). (e, place)) o ≡ None → o ≡ None
not_placed None place e = refl
not_placed (Some d) place e = absurd cc

no_closed : (fs : List Frame) (o : Option (FrameFault × ℕ)) (rests : List ℕ) → rests_along (map (event.Arrived 0) fs ++ ended 0 o) rests ≡ rests
no_closed [] None rests = refl
no_closed [] (Some e) rests = refl
no_closed (f ∷ fs) o rests = no_closed fs o rests

plain_closed : (used : List ℕ) → closed_rests Plain used ≡ no_counts
plain_closed used = ap (λ (es : List Event). rests_along es no_counts) (plain_events used) ∙ no_closed (frames_of used) (fault_held (all_of used)) no_counts

held_alone : (n : ℕ) → held_or_closed n 0 ≡ n
held_alone zero = refl
held_alone (suc n) = refl

-- The sessions at the end: session 0 with all bytes, and no other.
abbrev first_session : List Session
first_session = set unopened 0 (session.Open Admin no_bytes)

abbrev at_end : List ℕ → List Session
at_end used = set first_session 0 (session.Open Admin (all_of used))

end_at : (used : List ℕ) (s : ℕ) → session_at (end_in Plain used).sessions s ≡ settled_session (session_at (at_end used) s)
end_at used s = get_or-map settled_session (at_end used) s session.Unopened

first_rest : (used : List ℕ) → fault_of used ≡ None → rest_len (session_at (end_in Plain used).sessions 0) ≡ length (rest_of used)
first_rest used none =
    ap rest_len (end_at used 0)
    ∙ rest_settled (session_at (at_end used) 0)
    ∙ ap length (held_at (front (rest_of used)) (0 + (length used - length (rest_of used))) (rest_of used)
    (not_placed (fault_in (front (rest_of used))) (length used - length (rest_of used)) none))

other_rest : (used : List ℕ) (s : ℕ) → (s ≡ 0 → ⊥) → rest_len (session_at (end_in Plain used).sessions s) ≡ 0
other_rest used s other =
    let is : session_at (at_end used) s ≡ session.Unopened =
    set_other first_session 0 s (session.Open Admin (all_of used)) other ∙ set_other unopened 0 s (session.Open Admin no_bytes) other ∙ unopened_at 256 s in
    ap rest_len (end_at used s ∙ ap settled_session is)

closed_at : (n s : ℕ) → ◌≡◌ {A = ℕ} (get_or (replicate n 0) s 0) 0
closed_at zero s = refl
closed_at (suc n) zero = refl
closed_at (suc n) (suc s) = closed_at n s

-- The rest of session 0 is that of all the bytes, and no other session has one.
pub plain_rest : (used : List ℕ) → fault_of used ≡ None → rest_at (end_in Plain used) (closed_rests Plain used) 0 ≡ length (rest_of used)
plain_rest used none =
    ap (λ (l : List ℕ). held_or_closed (rest_len (session_at (end_in Plain used).sessions 0)) (get_or l 0 0)) (plain_closed used)
    ∙ held_alone (rest_len (session_at (end_in Plain used).sessions 0))
    ∙ first_rest used none

pub plain_no_rest : (used : List ℕ) (s : ℕ) → (s ≡ 0 → ⊥) → rest_at (end_in Plain used) (closed_rests Plain used) s ≡ 0
plain_no_rest used s other =
    ap (λ (l : List ℕ). held_or_closed (rest_len (session_at (end_in Plain used).sessions s)) (get_or l s 0)) (plain_closed used)
    ∙ ap (λ (n : ℕ). held_or_closed n (get_or no_counts s 0)) (other_rest used s other)
    ∙ closed_at 256 s

-- ---- what comes before another event

never_none : (xs ys : List Event) (y : Event) → xs ++ y ∷ ys ≡ [] → ⊥
never_none [] ys y e = cc
never_none (x ∷ xs) ys y e = cc

before_next : (fs : List Frame) (o : Option (FrameFault × ℕ)) (xs ys : List Event) (y : Event) → xs ++ y ∷ ys ≡ map (event.Arrived 0) fs ++ ended 0 o → list_any is_fault xs ≡ false
before_next fs o [] ys y e = refl
before_next [] None (x ∷ xs) ys y e = absurd cc
before_next [] (Some f) (x ∷ xs) ys y e =
    let rest : xs ++ y ∷ ys ≡ [] = cc in
    absurd (never_none xs ys y rest)
before_next (f ∷ fs) o (x ∷ xs) ys y e =
    let first : x ≡ event.Arrived 0 f = cc in
    let rest : xs ++ y ∷ ys ≡ map (event.Arrived 0) fs ++ ended 0 o = cc in
    ap (λ (z : Event). is_fault z || list_any is_fault xs) first ∙ before_next fs o xs ys y rest

-- The fault of plain input is its last event: none is among those before another.
pub plain_calm : (used : List ℕ) (es later : List Event) (e : Event) → es ++ e ∷ later ≡ events_in Plain used → list_any is_fault es ≡ false
plain_calm used es later e split = before_next (frames_of used) (fault_held (all_of used)) es later e (split ∙ plain_events used)
