-- What a change that a caller hands to a table does to a record (docs/PROMISES.md, "The tables of records").
use Rattle.std.specs.Prelude.{◌≡◌, ℕ, ⊤, List, Some}
use Rattle.std.specs.Borrow.{MutBor}
use Rattle.std.specs.Fn.{Once, Shared, FnOnceReturnsAtMut}
use Rattle.ctrl_model.specs.Numbered.{at, edit_at}

-- What one call does of what can be called again.
abbrev pub one_call : {F A R : Type 0} → Shared F A R → Once F A R
one_call g = record { pre = g.pre; post = g.post }

module _ {F R : Type 0} (g : Once F (MutBor R × Unit {0}) (⊤ × (MutBor R × Unit {0}))) (change : F) where
  -- A change makes of each record what a function gives.
  abbrev pub Does : (R → R) → Type 0
  Does f = (old new : R) → FnOnceReturnsAtMut g change old tt new → new ≡ f old

  -- A change leaves a part of each record as it is.
  abbrev pub KeepsPart : {X : Type 0} → (R → X) → Type 0
  KeepsPart part = (old new : R) → FnOnceReturnsAtMut g change old tt new → part new ≡ part old

  -- The record at a number is changed, and no other.
  pub record ChangesAt (n : ℕ) (old new : List (ℕ × R)) : Type 0 where
    pub before : R
    pub after : R
    pub stood : at old n ≡ Some before
    pub changed : FnOnceReturnsAtMut g change before tt after
    pub rows : new ≡ edit_at old n (λ _. after)

-- A copy of a record is equal to it.
abbrev pub IsCopied : {R : Type 0} → (R → R → Type 0) → Type 0
IsCopied {R} is_clone = (old new : R) → is_clone old new → new ≡ old
