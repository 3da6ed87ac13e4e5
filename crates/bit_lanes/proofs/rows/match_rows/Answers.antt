use Rattle.std.proofs.Common.{ℕ, ◌+◌, ◌<◌, ◌↔◌, Bool, false, IsTrue, List, length, get_or, set, sym, subst, inl, inr, arith}
use Rattle.std.proofs.lemmas.Bool.Decides.{eqb_tells}
use Rattle.std.proofs.lemmas.List.{get_or-set_same, get_or-set_other}
use Rattle.bit_lanes.specs.Lanes.{Meets, bit_row}
use Rattle.bit_lanes.proofs.rows.match_rows.Goals as goal

row_more : (P : ℕ → Type 0) (out : List Bool) (i : ℕ) (r : Bool) → i < length out → ((k : ℕ) → k < i → IsTrue (get_or out k false) ↔ P k) → (IsTrue r ↔ P i) → (k : ℕ) → k < i + 1 → IsTrue (get_or (set out i r) k false) ↔ P k
row_more P out i r h before here k p =
    elim (eqb_tells k i) [
      | inl t ↦ subst (λ (n : ℕ). IsTrue (get_or (set out i r) n false) ↔ P n) (sym t.1) (subst (λ (b : Bool). IsTrue b ↔ P i) (sym (get_or-set_same out i r false h)) here)
      | inr t ↦ subst (λ (b : Bool). IsTrue b ↔ P k) (sym (get_or-set_other out i k r false t.1)) (before k (omega arith))
    ]

pub rows-preserved : goal.rows-preserved
rows-preserved c =
    row_more (λ k. Meets c.args.all (bit_row c.args.rows.now c.args.width k) c.args.want.now) c.rows.out c.rows.place c.meets.result (omega arith) c.rows.invariant c.meets.ensures
