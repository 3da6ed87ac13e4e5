-- What a write and a cut may leave, seen from what they do when nothing stops them.
use Rattle.std.proofs.Common.{◌≡◌, inl, inr, ℕ, ◌+◌, min, List, [], ◌++◌, length, take, drop, refl, sym, ap, ◌∙◌, arith, length-append, append_assoc, take-append-drop, append-nil}
use Rattle.std.proofs.lemmas.Bool.{cases_lt}
use Rattle.std.proofs.lemmas.List.{length-take, length-drop, drop_all}
use Rattle.std.proofs.lemmas.Slice.{drop-append-drop}
use Rattle.ziti_outside.specs.Images.{Holds, Torn, CutShort}

-- Behind a write stand the old bytes: those behind its end, or none where it ends behind theirs.
behind : (at count : ℕ) (front old : List ℕ) → length front ≡ min at (length old) + count → drop (at + count) (front ++ drop (at + count) old) ≡ drop (at + count) old
behind at count front old long =
    elim (cases_lt (length old) at) as (λ _. drop (at + count) (front ++ drop (at + count) old) ≡ drop (at + count) old) [
      | inl past ↦
          let none : drop (at + count) old ≡ [] = drop_all (at + count) old (omega arith) in
          rw none (ap (λ (l : List ℕ). drop (at + count) l) (append-nil front) ∙ drop_all (at + count) front (omega arith))
      | inr within ↦ drop-append-drop (at + count) old front (at + count) (omega arith) (omega arith)
    ]

-- A write that nothing stopped is one that a stop at its end leaves.
pub Torn-whole : (at : ℕ) (bytes old new : List ℕ) → Holds at bytes old new → Torn at (length bytes) old new
Torn-whole at bytes old new e =
    let till = at + length bytes in
    let front = take at old ++ bytes in
    let whole : new ≡ front ++ drop till old = e ∙ sym (append_assoc (take at old) bytes (drop till old)) in
    let long : length front ≡ min at (length old) + length bytes = omega (arith, length-append (take at old) bytes, length-take at old) in
    let count : length new ≡ length front + length (drop till old) = ap length whole ∙ length-append front (drop till old) in
    let rest = length-drop till old in
    record {
      before = (bytes ++ drop till old, sym e);
      after = ap (λ (l : List ℕ). drop till l) whole ∙ behind at (length bytes) front old long;
      no_shorter = omega arith;
      no_longer = omega arith;
    }

-- A write that did nothing is one that a stop at its start leaves.
pub Torn-none : (at count : ℕ) (old : List ℕ) → Torn at count old old
Torn-none at count old = record {
  before = (drop at old, take-append-drop at old);
  after = refl;
  no_shorter = omega arith;
  no_longer = omega arith;
}

-- A cut that nothing stopped is one that a stop at its end leaves.
pub CutShort-whole : (len : ℕ) (old : List ℕ) → CutShort len old (take len old)
CutShort-whole len old = record { no_shorter = omega (arith, length-take len old); front = (drop len old, take-append-drop len old) }

-- A cut that did nothing is one that a stop at its start leaves.
pub CutShort-none : (len : ℕ) (old : List ℕ) → CutShort len old old
CutShort-none len old = record { no_shorter = omega arith; front = ([], append-nil old) }
