-- Counts that are those of a relation are as many as the pairs that it grants.
use Rattle.std.proofs.Common.{◌≡◌, ℕ, suc, zero, ◌+◌, ◌*◌, ◌≤◌, ◌<◌, nat_lt, Bool, true, false, cond, ◌&&◌, Option, None, Some, List, [], ◌∷◌, length, filter, inl, inr, refl, sym, ◌∙◌, ap, ap₂, subst, arith}
use Rattle.std.proofs.lemmas.Bool.{lt-ltb}
use Rattle.std.proofs.lemmas.List.{length-map}
use Rattle.std.proofs.lemmas.List.Concat.{length-flat_map}
use Rattle.std.proofs.lemmas.List.Sums.{sum_by-le, count_by-le-length, length-filter}
use Rattle.std.proofs.lemmas.Simd.{map-map}
use Rattle.std.specs.List.{count_by, sum_by}
use Rattle.ctrl_model.specs.declared.kinds.Relation.{Relation}
use Rattle.ctrl_model.specs.declared.kinds.Relation.TheVariants.{Dial, Bind, IdentityRouter, ServiceRouter}
use Rattle.ctrl_model.specs.Membership.{Among}
use Rattle.ctrl_model.specs.Walks.{is_among}
use Rattle.ctrl_model.specs.Numbered.{at, numbers, Between}
use Rattle.ctrl_model.specs.State.{State, Entity, as_entity}
use Rattle.ctrl_model.specs.Grants.{policies_for, count, is_granted, left_numbers, right_numbers, granted_pairs}
use Rattle.ctrl_model.proofs.Members.{at-among, is_among-from}
use Rattle.grant_denorm.specs.PairCounts.{AreCounts, Ascends}
use Rattle.grant_denorm.specs.MovedCounts.{AreCountsOf}
use Rattle.grant_denorm.proofs.EqualCounts.{one_list}
use Rattle.grant_moves.specs.EntitySides.{left_rows, right_rows}
use Rattle.grant_moves.proofs.CountRules.{joined, count_joined, joined-left_absent, joined-right_absent}
use Rattle.grant_moves.proofs.GrantedTable.{row_of, grant_table, table_counts, AreCounts-table}

-- ---- the numbers of a side

numbers_left : (r : Relation) (s : State) → left_numbers r s ≡ numbers (left_rows r s)
numbers_left Dial s = refl
numbers_left Bind s = refl
numbers_left IdentityRouter s = refl
numbers_left ServiceRouter s = refl

numbers_right : (r : Relation) (s : State) → right_numbers r s ≡ numbers (right_rows r s)
numbers_right Dial s = refl
numbers_right Bind s = refl
numbers_right IdentityRouter s = sym (map-map (λ (row : ℕ × Entity). row.0) (λ row. (row.0, as_entity row.1)) s.routers.rows)
numbers_right ServiceRouter s = sym (map-map (λ (row : ℕ × Entity). row.0) (λ row. (row.0, as_entity row.1)) s.routers.rows)

least_among : {R : Type 0} (high : ℕ) (rows : List (ℕ × R)) (low n : ℕ) → Between low high rows → Among n (numbers rows) → low ≤ n
least_among high [] low n b m = absurd m
least_among high (x ∷ rows) low n b (inl e) = omega arith
least_among high (x ∷ rows) low n b (inr m) = further x.0 low n b.0 (least_among high rows (x.0 + 1) n b.2 m)
  where
    further : (k low n : ℕ) → low ≤ k → k + 1 ≤ n → low ≤ n
    further k low n h j = omega arith

Ascends-numbers : {R : Type 0} (high : ℕ) (rows : List (ℕ × R)) (low : ℕ) → Between low high rows → Ascends (numbers rows)
Ascends-numbers high [] low b = tt
Ascends-numbers high (x ∷ rows) low b = (λ n m. above x.0 n (least_among high rows (x.0 + 1) n b.2 m), Ascends-numbers high rows (x.0 + 1) b.2)
  where
    above : (k n : ℕ) → k + 1 ≤ n → k < n
    above k n h = omega arith

-- ---- a pair that is counted is one of present entities

none : (n : ℕ) → 0 < n → n ≡ 0 → ⊥
none n h e = absurd (omega arith)

left_present : (r : Relation) (s : State) (a b : ℕ) → 0 < count r s a b → Among a (numbers (left_rows r s))
left_present r s a b h = by (at (left_rows r s) a) refl (subst (λ n. 0 < n) (count_joined r s a b) h)
  where
    by : (o : Option Entity) → at (left_rows r s) a ≡ o → 0 < joined r o (at (right_rows r s) b) (policies_for r s) → Among a (numbers (left_rows r s))
    by None is k = absurd (none (joined r None (at (right_rows r s) b) (policies_for r s)) k (joined-left_absent r (at (right_rows r s) b) (policies_for r s)))
    by (Some e) is k = at-among (left_rows r s) a e is

right_present : (r : Relation) (s : State) (a b : ℕ) → 0 < count r s a b → Among b (numbers (right_rows r s))
right_present r s a b h = by (at (right_rows r s) b) refl (subst (λ n. 0 < n) (count_joined r s a b) h)
  where
    by : (o : Option Entity) → at (right_rows r s) b ≡ o → 0 < joined r (at (left_rows r s) a) o (policies_for r s) → Among b (numbers (right_rows r s))
    by None is k = absurd (none (joined r (at (left_rows r s) a) None (policies_for r s)) k (joined-right_absent r (at (left_rows r s) a) (policies_for r s)))
    by (Some e) is k = at-among (right_rows r s) b e is

all_counted : (s t : Bool) (n : ℕ) → (0 < n → s ≡ true) → (0 < n → t ≡ true) → cond (s && (t && nat_lt 0 n)) n 0 ≡ n
all_counted s t zero e f = nothing (s && (t && nat_lt 0 0))
  where
    nothing : (b : Bool) → ◌≡◌ {A = ℕ} (cond b 0 0) 0
    nothing true = refl
    nothing false = refl
all_counted s t (suc n) e f =
    let positive : 0 < suc n = omega arith in
    λ i. cond (e positive i && (f positive i && lt-ltb 0 (suc n) positive i)) (suc n) 0

-- ---- how many pairs are granted

pub pairs_are_granted : (r : Relation) (s : State) (left_high right_high : ℕ) (xs : List ((ℕ × ℕ) × ℕ)) → AreCounts xs → AreCountsOf (count r s) xs
    → Between 1 left_high (left_rows r s) → Between 1 right_high (right_rows r s) → length xs ≡ granted_pairs r s
pairs_are_granted r s left_high right_high xs counts rule left right =
    ap (λ ys. length ys) (one_list xs (grant_table (count r s) lefts rights) counts
    (AreCounts-table (count r s) rights (Ascends-numbers right_high (right_rows r s) 1 right) lefts (Ascends-numbers left_high (left_rows r s) 1 left))
    (λ p q. rule p q ∙ sym (table_counts (count r s) rights p q lefts ∙ all_counted (is_among p lefts) (is_among q rights) (count r s p q)
    (λ h. is_among-from p lefts (left_present r s p q h)) (λ h. is_among-from q rights (right_present r s p q h)))))
    ∙ length-flat_map (row_of (count r s) rights) lefts
    ∙ (λ i. sum_by (λ a. row_length a i) lefts)
    ∙ sym (λ i. sum_by (λ a. count_by (is_granted r s a) (numbers_right r s i)) (numbers_left r s i))
  where
    lefts : List ℕ
    lefts = numbers (left_rows r s)

    rights : List ℕ
    rights = numbers (right_rows r s)

    row_length : (a : ℕ) → length (row_of (count r s) rights a) ≡ count_by (is_granted r s a) rights
    row_length a = length-map (filter (is_granted r s a) rights) (λ b. ((a, b), count r s a b)) ∙ length-filter (is_granted r s a) rights

pub granted_at_most : (r : Relation) (s : State) → granted_pairs r s ≤ length (left_rows r s) * length (right_rows r s)
granted_at_most r s =
    subst (λ n. granted_pairs r s ≤ n) (ap₂ (λ m n. m * n) left right)
    (sum_by-le (λ a. count_by (is_granted r s a) (right_numbers r s)) (length (right_numbers r s)) (left_numbers r s)
    (λ k d h. count_by-le-length (is_granted r s _) (right_numbers r s)))
  where
    left : length (left_numbers r s) ≡ length (left_rows r s)
    left = ap (λ ns. length ns) (numbers_left r s) ∙ length-map (left_rows r s) (λ row. row.0)

    right : length (right_numbers r s) ≡ length (right_rows r s)
    right = ap (λ ns. length ns) (numbers_right r s) ∙ length-map (right_rows r s) (λ row. row.0)
