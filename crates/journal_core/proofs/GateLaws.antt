-- What a write at a gate, and one behind it, do to the bytes of a slot, stopped or not.
use Rattle.std.specs.Prelude.{OnOk}
use Rattle.std.specs.declared.result.Result.{Result}
use Rattle.std.proofs.Common.{◌≡◌, ◌≢◌, Ok, Err, ℕ, ◌+◌, ◌≤◌, List, [], ◌∷◌, ◌++◌, length, take, drop, inl, inr, sym, ap, ◌∙◌, subst, arith, length-append, append_assoc}
use Rattle.std.proofs.lemmas.List.{take_at, drop_at}
use Rattle.std.proofs.lemmas.Bool.{cases_eq}
use Rattle.std.proofs.Math.Seq.{drop-append-add}
use Rattle.ziti_outside.specs.Images.{Holds, Torn}
use Rattle.journal_core.specs.Slots.{IsClosed, Shut, ShutOrAdded, added, record_of, text_of}

-- A closed gate stands within the bytes.
pub closed_within : {at : ℕ} {bytes : List ℕ} → IsClosed at bytes → at + 1 ≤ length bytes
closed_within {at} {bytes} c =
    let long : length bytes ≡ length c.front + length (c.gate ∷ c.more) = ap length c.split ∙ length-append c.front (c.gate ∷ c.more) in
    let place = c.place in
    omega arith

-- The bytes before a closed gate.
pub before_gate : {at : ℕ} {bytes : List ℕ} (c : IsClosed at bytes) → take at bytes ≡ c.front
before_gate {at} {bytes} c = ap (λ (l : List ℕ). take at l) c.split ∙ take_at c.front (c.gate ∷ c.more) at c.place

-- The bytes up to a closed gate, and the gate.
pub with_gate : {at : ℕ} {bytes : List ℕ} (c : IsClosed at bytes) → take (at + 1) bytes ≡ c.front ++ c.gate ∷ []
with_gate {at} {bytes} c =
    let split : bytes ≡ (c.front ++ c.gate ∷ []) ++ c.more = c.split ∙ sym (append_assoc c.front (c.gate ∷ []) c.more) in
    let long : length (c.front ++ c.gate ∷ []) ≡ at + 1 = length-append c.front (c.gate ∷ []) ∙ ap (λ (n : ℕ). n + 1) c.place in
    ap (λ (l : List ℕ). take (at + 1) l) split ∙ take_at (c.front ++ c.gate ∷ []) c.more (at + 1) long

-- Where a gate is closed, nothing was added.
pub shut_none : {at : ℕ} {bytes : List ℕ} → IsClosed at bytes → Shut at bytes bytes
shut_none {at} {bytes} c = record {
  gate = c.gate;
  more = c.more;
  split = c.split ∙ ap (λ (l : List ℕ). l ++ c.gate ∷ c.more) (sym (before_gate c));
  closed = c.closed;
}

-- A write behind a closed gate leaves it closed, wherever it is stopped.
pub torn_behind : {at count : ℕ} {old new : List ℕ} → IsClosed at old → Torn (at + 1) count old new → Shut at old new
torn_behind {at} {count} {old} {new} c t = record {
  gate = c.gate;
  more = t.before.0;
  split =
      sym t.before.1 ∙ ap (λ (l : List ℕ). l ++ t.before.0) (with_gate c) ∙ append_assoc c.front (c.gate ∷ []) t.before.0
      ∙ ap (λ (l : List ℕ). l ++ c.gate ∷ t.before.0) (sym (before_gate c));
  closed = c.closed;
}

-- The bytes of a slot with a text behind a gate that is closed.
pub record Ready (at : ℕ) (text old mid : List ℕ) : Type 0 where
  pub gate : ℕ
  pub closed : gate ≢ 1
  pub place : length (take at old) ≡ at
  pub split : mid ≡ take at old ++ gate ∷ (text ++ drop (at + 1 + length text) old)

-- A whole write behind a closed gate.
pub written_behind : {at : ℕ} {text old mid : List ℕ} → IsClosed at old → Holds (at + 1) text old mid → Ready at text old mid
written_behind {at} {text} {old} {mid} c h =
    let rest = text ++ drop (at + 1 + length text) old in
    record {
      gate = c.gate;
      closed = c.closed;
      place = ap length (before_gate c) ∙ c.place;
      split =
          h ∙ ap (λ (l : List ℕ). l ++ rest) (with_gate c) ∙ append_assoc c.front (c.gate ∷ []) rest
          ∙ ap (λ (l : List ℕ). l ++ c.gate ∷ rest) (sym (before_gate c));
    }

-- One byte and the rest, of as many bytes as another list with this rest behind its first.
one_byte : (gate : ℕ) (rest new : List ℕ) → length new ≡ length (gate ∷ rest) → drop 1 new ≡ rest → (x : ℕ) × (new ≡ x ∷ rest)
one_byte gate rest [] long e = absurd (omega (arith, long))
one_byte gate rest (x ∷ new) long e = (x, ap (λ (l : List ℕ). x ∷ l) e)

-- What a byte at a gate makes of a slot that is ready: a closed gate still, or the text was added.
opened : (at : ℕ) (text old : List ℕ) (x : ℕ) (new : List ℕ) → new ≡ take at old ++ x ∷ (text ++ drop (at + 1 + length text) old) → ShutOrAdded at text old new
opened at text old x new e = elim (cases_eq x 1) as (λ _. ShutOrAdded at text old new) [
  | inl is_open ↦ inr (subst (λ (y : ℕ). new ≡ take at old ++ y ∷ (text ++ drop (at + 1 + length text) old)) is_open e)
  | inr closed ↦ inl (record { gate = x; more = text ++ drop (at + 1 + length text) old; split = e; closed = closed })
]

-- So does what begins with that byte.
opened_byte : (at : ℕ) (text old new more : List ℕ) → (x : ℕ) × (more ≡ x ∷ (text ++ drop (at + 1 + length text) old)) → new ≡ take at old ++ more → ShutOrAdded at text old new
opened_byte at text old new more byte split = opened at text old byte.0 new (split ∙ ap (λ (l : List ℕ). take at old ++ l) byte.1)

-- What stands behind a gate that is ready.
behind_gate : (front rest mid : List ℕ) (at gate : ℕ) → length front ≡ at → mid ≡ front ++ gate ∷ rest → drop (at + 1) mid ≡ rest
behind_gate front rest mid at gate place e =
    let long : length (front ++ gate ∷ []) ≡ at + 1 = length-append front (gate ∷ []) ∙ ap (λ (n : ℕ). n + 1) place in
    ap (λ (l : List ℕ). drop (at + 1) l) (e ∙ sym (append_assoc front (gate ∷ []) rest)) ∙ drop_at (front ++ gate ∷ []) rest (at + 1) long

-- What stands behind the byte that follows a front.
past_front : (front more : List ℕ) (at : ℕ) → length front ≡ at → drop 1 more ≡ drop (at + 1) (front ++ more)
past_front front more at place = sym (drop-append-add front more 1) ∙ ap (λ (n : ℕ). drop (n + 1) (front ++ more)) place

-- What stands behind a gate stays where all behind it stays.
rest_stays : (front rest mid new more : List ℕ) (at gate : ℕ) → length front ≡ at → mid ≡ front ++ gate ∷ rest → new ≡ front ++ more → drop (at + 1) new ≡ drop (at + 1) mid
    → drop 1 more ≡ rest
rest_stays front rest mid new more at gate place was is after =
    past_front front more at place ∙ ap (λ (l : List ℕ). drop (at + 1) l) (sym is) ∙ after ∙ behind_gate front rest mid at gate place was

-- A write of the gate alone leaves it closed or opens it, wherever it is stopped.
pub torn_gate : {at : ℕ} {text old mid new : List ℕ} → Ready at text old mid → Torn at 1 mid new → ShutOrAdded at text old new
torn_gate {at} {text} {old} {mid} {new} r t =
    let front = take at old in
    let rest = text ++ drop (at + 1 + length text) old in
    let more = t.before.0 in
    let place = r.place in
    let same : take at mid ≡ front = ap (λ (l : List ℕ). take at l) r.split ∙ take_at front (r.gate ∷ rest) at place in
    let split : new ≡ front ++ more = sym t.before.1 ∙ ap (λ (l : List ℕ). l ++ more) same in
    let was : length mid ≡ length front + length (r.gate ∷ rest) = ap length r.split ∙ length-append front (r.gate ∷ rest) in
    let is : length new ≡ length front + length more = ap length split ∙ length-append front more in
    let low = t.no_shorter in
    let high = t.no_longer in
    let long : length more ≡ length (r.gate ∷ rest) = omega arith in
    let behind : drop 1 more ≡ rest = rest_stays front rest mid new more at r.gate place r.split split t.after in
    opened_byte at text old new more (one_byte r.gate rest more long behind) split

-- A whole write of an open gate.
pub written_gate : {at : ℕ} {text old mid new : List ℕ} → Ready at text old mid → Holds at (1 ∷ []) mid new → new ≡ added at text old
written_gate {at} {text} {old} {mid} {new} r h =
    let front = take at old in
    let rest = text ++ drop (at + 1 + length text) old in
    h ∙ ap (λ (l : List ℕ). l ++ 1 ∷ drop (at + 1) mid) (ap (λ (l : List ℕ). take at l) r.split ∙ take_at front (r.gate ∷ rest) at r.place)
    ∙ ap (λ (l : List ℕ). front ++ 1 ∷ l) (behind_gate front rest mid at r.gate r.place r.split)

-- So it is where that write is the last of two calls.
pub gate_added : {T E tells : Type 0} (at : ℕ) (text gate old mid new : List ℕ) (r : Result T E) → gate ≡ 1 ∷ [] → (tells → IsClosed at old) → (tells → Holds (at + 1) text old mid)
    → OnOk r (tells → Holds at gate mid new) → OnOk r (tells → new ≡ added at text old)
gate_added at text gate old mid new (Ok x) is closed behind here = λ told.
    written_gate (written_behind (closed told) (behind told)) (subst (λ (l : List ℕ). Holds at l mid new) is (here told))
gate_added at text gate old mid new (Err e) is closed behind here = tt

-- Behind a record that was added stands a closed gate.
closed_behind : {at : ℕ} {old new : List ℕ} (payload : List ℕ) → IsClosed at old → new ≡ added at (text_of payload) old → IsClosed (at + length (text_of payload)) new
closed_behind {at} {old} {new} payload c e =
    let rest = drop (at + 1 + length (text_of payload)) old in
    let front = take at old ++ 1 ∷ record_of payload in
    let place : length front ≡ length (take at old) + length (1 ∷ record_of payload) = length-append (take at old) (1 ∷ record_of payload) in
    let text : length (text_of payload) ≡ length (record_of payload) + 1 = length-append (record_of payload) (0 ∷ []) in
    let before : length (take at old) ≡ at = ap length (before_gate c) ∙ c.place in
    record {
      front = front;
      gate = 0;
      more = rest;
      split =
          e ∙ ap (λ (l : List ℕ). take at old ++ 1 ∷ l) (append_assoc (record_of payload) (0 ∷ []) rest)
          ∙ sym (append_assoc (take at old) (1 ∷ record_of payload) (0 ∷ rest));
      place = omega arith;
      closed = λ e. absurd (omega (arith, e));
    }

-- So it does behind a text that is such a record.
pub added_closed : {at : ℕ} {old new : List ℕ} (text payload : List ℕ) → text ≡ text_of payload → IsClosed at old → new ≡ added at text old → IsClosed (at + length text) new
added_closed {at} {old} {new} text payload is c e =
    subst (λ (t : List ℕ). IsClosed (at + length t) new) (sym is) (closed_behind payload c (e ∙ ap (λ (t : List ℕ). added at t old) is))
