-- How near a run stays whichever of its events are taken as the answered ones.
use Rattle.std.proofs.Common.{◌≡◌, ◌⊎◌, inl, inr, ℕ, ◌+◌, List, [], ◌∷◌, ◌++◌, length, take, Option, refl, sym, ap, ◌∙◌, append_assoc, append-nil, length-append, arith}
use Rattle.std.proofs.lemmas.Grind.{flat_map-append}
use Rattle.std.proofs.lemmas.List.{append_cancel_left, nil_from_length}
use Rattle.serve_loop.specs.Answerers.{Answerer}
use Rattle.session_mux.specs.declared.events.Event.{Event}
use Rattle.session_mux.specs.declared.events.Event.TheVariants.{Arrived}
use Rattle.session_mux.specs.declared.sessions.Form.{Form}
use Rattle.run_notes.specs.Inputs.{events_in}
use Rattle.run_notes.specs.declared.status.Status.TheVariants.{WriteFault}
use Rattle.serve_loop.specs.AnsweredFrames.{replies_to}
use Rattle.serve_loop.specs.ServedInputs.{Serves, taking_of}
use Rattle.serve_loop.specs.Reading.{StaysNear}
use Rattle.serve_loop.specs.SaidReplies.{SaysFront, joined}
use Rattle.serve_loop.proofs.SaidLaws.{later_replies, replies_parted}
use Rattle.ziti_outside.specs.Views.{Seen}

-- What is near some first events is near more of them.
near_more : (form : Form) (most : ℕ) (taken : List ℕ) (answered later all : List Event) → answered ++ later ≡ all → StaysNear form most taken answered → StaysNear form most taken all
near_more form most taken answered later all is near = record {
  first = near.first;
  last = near.last;
  split = near.split;
  piece = near.piece;
  more = near.more ++ later;
  before =
      sym (append_assoc (events_in form (take most near.first)) near.more later) ∙ ap (λ (es : List Event). es ++ later) near.before ∙ is;
  undecided = near.undecided;
}

-- Of two splits of a list the first part of one begins the first part of the other.
record Longer (xs ys us vs : List Event) : Type 0 where
  e : Event
  d : List Event
  first : ys ++ e ∷ d ≡ xs
  later : e ∷ (d ++ us) ≡ vs

two_splits : (xs ys us vs : List Event) → xs ++ us ≡ ys ++ vs → ((d : List Event) × (xs ++ d ≡ ys)) ⊎ Longer xs ys us vs
two_splits [] ys us vs same = inl (ys, refl)
two_splits (x ∷ xs) [] us vs same = inr (record { e = x; d = xs; first = refl; later = same })
two_splits (x ∷ xs) (y ∷ ys) us vs same =
    let first : x ≡ y = cc in
    let rest : xs ++ us ≡ ys ++ vs = cc in
    elim (two_splits xs ys us vs rest) as (λ _. ((d : List Event) × (x ∷ xs ++ d ≡ y ∷ ys)) ⊎ Longer (x ∷ xs) (y ∷ ys) us vs) [
      | inl more ↦ inl (more.0, ap (λ (z : Event). z ∷ (xs ++ more.0)) first ∙ ap (λ (l : List Event). y ∷ l) more.1)
      | inr long ↦ inr (record { e = long.e; d = long.d; first = ap (λ (z : Event). z ∷ (ys ++ long.e ∷ long.d)) (sym first) ∙ ap (λ (l : List Event). x ∷ l) long.first; later = long.later })
    ]

-- A front that is no longer than what it is a front of, and no shorter, is all of it.
whole_front : (front more reply rest : List ℕ) → front ++ more ≡ reply → front ≡ reply ++ rest → front ≡ reply
whole_front front more reply rest is long =
    let a : length front + length more ≡ length reply = sym (length-append front more) ∙ ap length is in
    let b : length front ≡ length reply + length rest = ap length long ∙ length-append reply rest in
    let none : more ≡ [] = nil_from_length more (omega (arith, a, b)) in
    sym (append-nil front) ∙ ap (λ (l : List ℕ). front ++ l) (sym none) ∙ is

-- No more whole replies were said than those to the answered events, where the next one was not taken whole.
no_more_said : {M : Type 0} (form : Form) (answerer : Answerer M) (m : M) (said : List ℕ) (xs us answered unanswered : List Event) → SaysFront form answerer m said xs us
    → (other : SaysFront form answerer m said answered unanswered) → Longer xs answered us unanswered → other.front ≡ other.reply
no_more_said form answerer m said xs us answered unanswered says other long =
    let arrived : Event = Arrived other.session other.frame in
    let is : long.e ≡ arrived = let both : long.e ∷ (long.d ++ us) ≡ arrived ∷ other.later = long.later ∙ other.first in cc in
    let split : (answered ++ arrived ∷ []) ++ long.d ≡ xs = append_assoc answered (arrived ∷ []) long.d ∙ ap (λ (z : Event). answered ++ z ∷ long.d) (sym is) ∙ long.first in
    let more : List (List ℕ) = later_replies form answerer m (answered ++ arrived ∷ []) long.d in
    let before : List (List ℕ) = replies_to form answerer m answered in
    let all : replies_to form answerer m xs ≡ (before ++ other.reply ∷ []) ++ more =
    ap (replies_to form answerer m) (sym split) ∙ sym (replies_parted form answerer m (answered ++ arrived ∷ []) long.d) ∙ ap (λ (rs : List (List ℕ)). rs ++ more) other.is_reply in
    let bytes : joined (replies_to form answerer m xs) ≡ joined before ++ (other.reply ++ joined more) =
    ap joined all ∙ ap joined (append_assoc before (other.reply ∷ []) more) ∙ flat_map-append (λ (x : List ℕ). x) before (other.reply ∷ more) in
    let same : joined before ++ other.front ≡ joined before ++ (other.reply ++ (joined more ++ says.front)) =
    sym other.same ∙ says.same ∙ ap (λ (l : List ℕ). l ++ says.front) bytes
    ∙ append_assoc (joined before) (other.reply ++ joined more) says.front
    ∙ ap (λ (l : List ℕ). joined before ++ l) (append_assoc other.reply (joined more) says.front) in
    whole_front other.front other.is_front.0 other.reply (joined more ++ says.front) other.is_front.1 (append_cancel_left (joined before) _ _ same)

pub near_said : {M : Type 0} (form : Form) (answerer : Answerer M) (m : M) (most : ℕ) (a b : Option (List ℕ)) (c d : Seen) (s : Serves (taking_of form most) answerer m a b c d WriteFault) (answered unanswered : List Event)
    → answered ++ unanswered ≡ events_in form (take most s.taken) → (says : SaysFront form answerer m s.said answered unanswered) → (says.front ≡ says.reply → ⊥) → StaysNear form most s.taken answered
near_said form answerer m most a b c d s answered unanswered split says cut =
    elim (two_splits s.answered answered s.unanswered unanswered (s.split ∙ sym split)) as (λ _. StaysNear form most s.taken answered) [
      | inl more ↦ near_more form most s.taken s.answered more.0 answered more.1 s.near
      | inr long ↦ absurd (cut (no_more_said form answerer m s.said s.answered s.unanswered answered unanswered s.says says long))
    ]
