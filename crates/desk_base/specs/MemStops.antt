-- The moments and images of a desk over memory keep the laws of every desk (docs/PROMISES.md, "The desks").
use Rattle.std.specs.Prelude.{◌≡◌, ℕ, zero, suc, true, false, List, [], ◌∷◌, length, take, Some}
use Rattle.std.proofs.Common.{inr, refl, sym, ◌∙◌, subst}
use Rattle.ziti_outside.specs.declared.desk.Part.{Part}
use Rattle.ziti_outside.specs.declared.desk.Part.TheVariants.{Zero, One, Mark}
use Rattle.ziti_outside.specs.Images.{Image, Torn, CutShort, Else, OnPart, After}
use Rattle.ziti_outside.specs.Moments.{Now}
use Rattle.ziti_outside.proofs.ImageLaws.{Torn-whole, Torn-none, CutShort-whole, CutShort-none}
use Rattle.desk_base.specs.MemEvents.{Event, Saying, Writing, Cutting, Syncing, reads_by, said_by, may_by, with_part, written_over, reads_after, said_after, MayAfter, Pairs, Leaving, Since}

-- This moment is one of those since an earlier one.
pub counts : (r : Image) (may : Image → Type 0) (s : List ℕ) (es : List Event) (t : ℕ) (c : Image) (w : List ℕ) → MayAfter r may es c → w ≡ said_after s es → Pairs r may s es t c w
counts r may s [] t c w m same = (m, same)
counts r may s (x ∷ es) zero c w m same = inr (counts (reads_by x r) (may_by x r may) (said_by x s) es zero c w m same)
counts r may s (x ∷ es) (suc t) c w m same = counts (reads_by x r) (may_by x r may) (said_by x s) es t c w m same

-- Since this moment there is no other.
pub only : (r : Image) (may : Image → Type 0) (s : List ℕ) (es : List Event) (c : Image) (w : List ℕ) → Pairs r may s es (length es) c w → MayAfter r may es c × (w ≡ said_after s es)
only r may s [] c w p = p
only r may s (x ∷ es) c w p = only (reads_by x r) (may_by x r may) (said_by x s) es c w p

-- The part that was changed, and the others.
pub with_part_here : (p : Part) (bytes : List ℕ) (r : Image) → with_part p bytes r p ≡ bytes
with_part_here Zero bytes r = refl
with_part_here One bytes r = refl
with_part_here Mark bytes r = refl

else_at : (p q : Part) (bytes : List ℕ) (r : Image) → (q ≡ p → ⊥) → with_part p bytes r q ≡ r q
else_at Zero Zero bytes r differs = absurd (differs refl)
else_at Zero One bytes r differs = refl
else_at Zero Mark bytes r differs = refl
else_at One Zero bytes r differs = refl
else_at One One bytes r differs = absurd (differs refl)
else_at One Mark bytes r differs = refl
else_at Mark Zero bytes r differs = refl
else_at Mark One bytes r differs = refl
else_at Mark Mark bytes r differs = absurd (differs refl)

pub with_part_else : (p : Part) (bytes : List ℕ) (r : Image) → Else p r (with_part p bytes r)
with_part_else p bytes r = record { same = λ q differs. else_at p q bytes r differs }

-- A change that was done is one of those that a stop within it leaves.
changed : (p : Part) (step : List ℕ → List ℕ → Type 0) (bytes : List ℕ) (r : Image) (may : Image → Type 0) → step (r p) bytes → may r → After (OnPart p step) may (with_part p bytes r)
changed p step bytes r may by m =
    record { from = r; was = m; by = record { here = subst (λ (l : List ℕ). step (r p) l) (sym (with_part_here p bytes r)) by; others = with_part_else p bytes r } }

-- So is one that was not done.
unchanged : (p : Part) (step : List ℕ → List ℕ → Type 0) (r : Image) (may : Image → Type 0) → step (r p) (r p) → may r → After (OnPart p step) may r
unchanged p step r may by m = record { from = r; was = m; by = record { here = by; others = record { same = λ q differs. refl } } }

-- So is a write that was not done, and a cut.
pub unwritten : (p : Part) (at count : ℕ) {may : Image → Type 0} (i : Image) → may i → After (OnPart p (Torn at count)) may i
unwritten p at count {may} i m = unchanged p (Torn at count) i may (Torn-none at count (i p)) m

pub uncut : (p : Part) (len : ℕ) {may : Image → Type 0} (i : Image) → may i → After (OnPart p (CutShort len)) may i
uncut p len {may} i m = unchanged p (CutShort len) i may (CutShort-none len (i p)) m

-- What the parts read is one of the images that a stop may leave.
own_by : (e : Event) (r : Image) (may : Image → Type 0) → may r → may_by e r may (reads_by e r)
own_by (Saying bytes) r may m = m
own_by (Writing p at bytes true) r may m = changed p (Torn at (length bytes)) (written_over at bytes (r p)) r may (Torn-whole at bytes (r p) (written_over at bytes (r p)) refl) m
own_by (Writing p at bytes false) r may m = unwritten p at (length bytes) r m
own_by (Cutting p len true) r may m = changed p (CutShort len) (take len (r p)) r may (CutShort-whole len (r p)) m
own_by (Cutting p len false) r may m = uncut p len r m
own_by (Syncing p) r may m = (m, refl)

pub own : (r : Image) (may : Image → Type 0) (es : List Event) → may r → MayAfter r may es (reads_after r es)
own r may [] m = m
own r may (x ∷ es) m = own (reads_by x r) (may_by x r may) es (own_by x r may m)

-- Since this moment there is no other.
pub now_only : (first : Image) (es : List Event) (said : List ℕ) (c : Image) (w : List ℕ) → said ≡ said_after [] es → Since first es (length es) c w → Now (λ i. Leaving first es i) (Some said) c w
now_only first es said c w taken since =
    let p = only first (λ i. i ≡ first) [] es c w since in
    record { found = p.0; replies = p.1 ∙ sym taken }

-- What the parts read is one of the images that a stop may leave.
pub own_image : (first held : Image) (es : List Event) → held ≡ reads_after first es → Leaving first es held
own_image first held es reads = subst (λ (r : Image). Leaving first es r) (sym reads) (own first (λ i. i ≡ first) es refl)
