-- A count as one test of each policy, whether the two entities are present or not.
use Rattle.std.proofs.Common.{◌≡◌, ℕ, ◌+◌, Bool, true, false, cond, ◌&&◌, Option, None, Some, List, [], ◌∷◌, refl, sym, ◌∙◌, ap₂}
use Rattle.std.proofs.lemmas.List.Sums.{sum_by-cons}
use Rattle.std.specs.List.{count_by}
use Rattle.ctrl_model.specs.declared.kinds.Relation.{Relation}
use Rattle.ctrl_model.specs.Numbered.{at}
use Rattle.ctrl_model.specs.State.{Entity, Policy, State}
use Rattle.ctrl_model.specs.Grants.{same_relation, joins, policies_for, left_entity, right_entity, on_both, count}
use Rattle.grant_moves.specs.EntitySides.{left_rows, right_rows, matches_if}
use Rattle.grant_moves.proofs.SideRows.{left_row_at, right_row_at}

-- whether a policy joins two entities that may be absent
abbrev pub joins_if : Relation → Option Entity → Option Entity → Policy → Bool
joins_if r e f p = same_relation r p.relation && (matches_if p.left p.semantic e && matches_if p.right p.semantic f)

-- how many policies do
abbrev pub joined : Relation → Option Entity → Option Entity → List (ℕ × Policy) → ℕ
joined r e f policies = count_by (λ row. joins_if r e f row.1) policies

pub none_counted : {X : Type 0} (test : X → Bool) → ((x : X) → test x ≡ false) → (xs : List X) → count_by test xs ≡ 0
none_counted test fails [] = refl
none_counted test fails (x ∷ xs) = sum_by-cons (λ y. cond (test y) 1 0) x xs ∙ ap₂ (λ t n. cond t 1 0 + n) (fails x) (none_counted test fails xs)

left_absent : (r : Relation) (f : Option Entity) (p : Policy) → joins_if r None f p ≡ false
left_absent r f p = by (same_relation r p.relation)
  where
    by : (t : Bool) → (t && false) ≡ false
    by true = refl
    by false = refl

right_absent : (r : Relation) (e : Option Entity) (p : Policy) → joins_if r e None p ≡ false
right_absent r e p = by (same_relation r p.relation) (matches_if p.left p.semantic e)
  where
    by : (t m : Bool) → (t && (m && false)) ≡ false
    by true true = refl
    by true false = refl
    by false m = refl

pub joined-left_absent : (r : Relation) (f : Option Entity) (policies : List (ℕ × Policy)) → joined r None f policies ≡ 0
joined-left_absent r f policies = none_counted (λ (row : ℕ × Policy). joins_if r None f row.1) (λ row. left_absent r f row.1) policies

pub joined-right_absent : (r : Relation) (e : Option Entity) (policies : List (ℕ × Policy)) → joined r e None policies ≡ 0
joined-right_absent r e policies = none_counted (λ (row : ℕ × Policy). joins_if r e None row.1) (λ row. right_absent r e row.1) policies

pub count_joined : (r : Relation) (s : State) (a b : ℕ) → count r s a b ≡ joined r (at (left_rows r s) a) (at (right_rows r s) b) (policies_for r s)
count_joined r s a b =
    either (left_entity r s a) (right_entity r s b) ∙ sym (ap₂ (λ e f. joined r e f (policies_for r s)) (left_row_at r s a) (right_row_at r s b))
  where
    either : (e f : Option Entity) → on_both e f (λ g h. count_by (λ row. joins r row.1 g h) (policies_for r s)) ≡ joined r e f (policies_for r s)
    either None f = sym (joined-left_absent r f (policies_for r s))
    either (Some e) None = sym (joined-right_absent r (Some e) (policies_for r s))
    either (Some e) (Some f) = refl
