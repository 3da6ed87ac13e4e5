-- Laws on what policies say: one policy more, and how many have both marks.
use Rattle.std.proofs.Common.{◌≡◌, ℕ, ◌+◌, ◌&&◌, Bool, true, false, cond, List, [], ◌∷◌, ◌++◌, map, filter, Option, Some, None, count_by, refl, ap, ◌∙◌, arith}
use Rattle.std.proofs.lemmas.List.Recursion.{is_count_by}
use Rattle.std.proofs.lemmas.List.Sums.{sum_by-cons}
use Rattle.std.specs.Prelude.{option_and_then}
use Rattle.ctrl_model.specs.declared.kinds.Relation.TheVariants.{Dial}
use Rattle.ctrl_model.specs.Grants.{joins, on_both, count}
use Rattle.ctrl_model.specs.Numbered.{at}
use Rattle.ctrl_model.specs.State.{State, Entity, Policy}
use Rattle.policy_advisor.specs.declared.advised.Marked.{Marked}
use Rattle.policy_advisor.specs.Advice.{dial_marks, grants_dial, has_both, is_matched, marked, of_both}

-- what one policy says, and then the others
pub marks-more : (e f : Option Entity) (row : ℕ × Policy) (rows : List (ℕ × Policy))
    → dial_marks e f (row ∷ rows) ≡ cond (grants_dial row.1) (marked e f row.1 ∷ []) [] ++ dial_marks e f rows
marks-more e f row rows = by (grants_dial row.1)
  where
    by : (b : Bool) → map (λ (x : ℕ × Policy). marked e f x.1) (cond b (row ∷ filter (λ x. grants_dial x.1) rows) (filter (λ x. grants_dial x.1) rows))
        ≡ cond b (marked e f row.1 ∷ []) [] ++ dial_marks e f rows
    by true = refl
    by false = refl

-- how many have both marks, one policy at a time
both_more : (e f : Option Entity) (row : ℕ × Policy) (rows : List (ℕ × Policy))
    → count_by has_both (dial_marks e f (row ∷ rows)) ≡ cond (grants_dial row.1 && has_both (marked e f row.1)) (1 + count_by has_both (dial_marks e f rows)) (count_by has_both (dial_marks e f rows))
both_more e f row rows = by (grants_dial row.1) (has_both (marked e f row.1)) refl
  where
    F : ℕ
    F = count_by has_both (dial_marks e f rows)

    either : (c : Bool) → cond c 1 0 + F ≡ cond c (1 + F) F
    either true = omega arith
    either false = omega arith

    told : (c : Bool) → has_both (marked e f row.1) ≡ c → count_by has_both (marked e f row.1 ∷ dial_marks e f rows) ≡ cond c (1 + F) F
    told c is = sum_by-cons (λ (m : Marked). cond (has_both m) 1 0) (marked e f row.1) (dial_marks e f rows) ∙ ap (λ b. cond b 1 0 + F) is ∙ either c

    by : (b c : Bool) → has_both (marked e f row.1) ≡ c
        → count_by has_both (map (λ (x : ℕ × Policy). marked e f x.1) (cond b (row ∷ filter (λ x. grants_dial x.1) rows) (filter (λ x. grants_dial x.1) rows))) ≡ cond (b && c) (1 + F) F
    by true c is = told c is
    by false c is = refl

-- those with both marks are the policies that join the two
both_joined : (e f : Entity) (rows : List (ℕ × Policy)) → count_by has_both (dial_marks (Some e) (Some f) rows) ≡ count_by (λ row. joins Dial row.1 e f) rows
both_joined e f rows =
    is_count_by (λ (xs : List (ℕ × Policy)). count_by has_both (dial_marks (Some e) (Some f) xs)) (λ row. joins Dial row.1 e f) refl
    (λ row xs. both_more (Some e) (Some f) row xs) rows

never : {X : Type 0} (F : List X → ℕ) → F [] ≡ 0 → ((x : X) (xs : List X) → F (x ∷ xs) ≡ F xs) → (xs : List X) → F xs ≡ 0
never F none step [] = none
never F none step (x ∷ xs) = step x xs ∙ never F none step xs

-- where one is absent there are none
no_left : (f : Option Entity) (rows : List (ℕ × Policy)) → count_by has_both (dial_marks None f rows) ≡ 0
no_left f rows = never (λ (xs : List (ℕ × Policy)). count_by has_both (dial_marks None f xs)) refl (λ row xs. both_more None f row xs ∙ by (grants_dial row.1) _ _) rows
  where
    by : (b : Bool) (m n : ℕ) → cond (b && false) m n ≡ n
    by true m n = refl
    by false m n = refl

no_right : (e : Option Entity) (rows : List (ℕ × Policy)) → count_by has_both (dial_marks e None rows) ≡ 0
no_right e rows = never (λ (xs : List (ℕ × Policy)). count_by has_both (dial_marks e None xs)) refl (λ row xs. both_more e None row xs ∙ by (grants_dial row.1) (is_matched e row.1.semantic row.1.left) _ _) rows
  where
    by : (b c : Bool) (m n : ℕ) → cond (b && (c && false)) m n ≡ n
    by true true m n = refl
    by true false m n = refl
    by false c m n = refl

on_marks : (e f : Option Entity) (rows : List (ℕ × Policy)) → count_by has_both (dial_marks e f rows) ≡ on_both e f (λ a b. count_by (λ row. joins Dial row.1 a b) rows)
on_marks None f rows = no_left f rows
on_marks (Some e) None rows = no_right (Some e) rows
on_marks (Some e) (Some f) rows = both_joined e f rows

-- as many have both marks as the count of the pair says
pub both_counted : (s : State) (i j : Option ℕ)
    → count_by has_both (dial_marks (option_and_then (at s.identities.rows) i) (option_and_then (at s.services.rows) j) s.service_policies.rows) ≡ of_both i j 0 (count Dial s)
both_counted s None j = no_left (option_and_then (at s.services.rows) j) s.service_policies.rows
both_counted s (Some i) None = no_right (at s.identities.rows i) s.service_policies.rows
both_counted s (Some i) (Some j) = on_marks (at s.identities.rows i) (at s.services.rows j) s.service_policies.rows
