-- Where one entity changes, the steps of its turns lead from the counts before it to the counts after it.
use Rattle.std.proofs.Common.{◌≡◌, ℕ, ◌+◌, ◌≤◌, ◌==◌, Bool, true, false, not, cond, ◌&&◌, Option, List, [], refl, sym, ◌∙◌, ap, ap₂, arith, eqb-true, eq-eqb}
use Rattle.std.proofs.lemmas.Bool.{both_ways}
use Rattle.std.proofs.lemmas.Grind.{common_steps}
use Rattle.std.proofs.lemmas.List.Sums.{sum_by-le-sum_by}
use Rattle.std.specs.List.{sum_by, count_by}
use Rattle.ctrl_model.specs.declared.kinds.Relation.{Relation}
use Rattle.ctrl_model.specs.Numbered.{at, Between}
use Rattle.ctrl_model.specs.State.{State, Entity, Policy}
use Rattle.ctrl_model.specs.Matches.{matches}
use Rattle.ctrl_model.specs.Grants.{same_relation, policies_for, count}
use Rattle.grant_denorm.specs.declared.deltas.Delta.{Delta}
use Rattle.grant_denorm.specs.Deltas.{ups, downs, is_entity_pair, turn_count, entity_ups, entity_downs}
use Rattle.grant_denorm.proofs.DeltaLaws.{count_by-guarded}
use Rattle.grant_moves.specs.EntitySides.{own_rows, other_rows, own_side, other_side, members_of, matches_if}
use Rattle.grant_moves.specs.GrantTurns.{turn_if, turn_of, turns_of}
use Rattle.grant_moves.specs.CountMoves.{LeadCounts, ChangesEntity}
use Rattle.grant_moves.proofs.CountRules.{joins_if, count_joined}
use Rattle.grant_moves.proofs.SumLaws.{sum_by-flat_map, sums_moved}
use Rattle.grant_moves.proofs.MemberCounts.{counted_once}

-- ---- a pair as the number of the entity's side and that of the other side

abbrev pub own_number : Bool → ℕ → ℕ → ℕ
own_number on_left a b = cond on_left a b

abbrev pub other_number : Bool → ℕ → ℕ → ℕ
other_number on_left a b = cond on_left b a

-- whether a policy joins an entity of the one side with one of the other
abbrev pub joins_own : Relation → Bool → Option Entity → Option Entity → Policy → Bool
joins_own r on_left e f p =
    same_relation r p.relation && (matches_if (own_side on_left p) p.semantic e && matches_if (other_side on_left p) p.semantic f)

joins_turned : (r : Relation) (e f : Option Entity) (p : Policy) → joins_if r e f p ≡ joins_own r false f e p
joins_turned r e f p = ap (λ t. same_relation r p.relation && t) (turned (matches_if p.left p.semantic e) (matches_if p.right p.semantic f))
  where
    turned : (s t : Bool) → (s && t) ≡ (t && s)
    turned true true = refl
    turned true false = refl
    turned false true = refl
    turned false false = refl

pub count_own : (r : Relation) (on_left : Bool) (s : State) (a b : ℕ) → count r s a b
    ≡ count_by (λ row. joins_own r on_left (at (own_rows on_left r s) (own_number on_left a b)) (at (other_rows on_left r s) (other_number on_left a b)) row.1) (policies_for r s)
count_own r true s a b = count_joined r s a b
count_own r false s a b =
    count_joined r s a b
    ∙ (λ i. count_by (λ (row : ℕ × Policy). joins_turned r (at (other_rows false r s) a) (at (own_rows false r s) b) row.1 i) (policies_for r s))

entity_pair : (x : ℕ) (on_left : Bool) (a b partner : ℕ) → is_entity_pair x on_left a b partner ≡ ((own_number on_left a b == x) && (other_number on_left a b == partner))
entity_pair x true a b partner = refl
entity_pair x false a b partner = refl

-- ---- the turn of one policy at a pair

-- how often the members of a policy's other side give the pair: once where the entity is the pair's and the side matches its partner
abbrev pub once : Bool → Bool → ℕ
once is_own is_member = cond is_own (cond is_member 1 0) 0

members_count : (x : ℕ) (on_left : Bool) (a b high : ℕ) (others : List (ℕ × Entity)) (p : Policy) → Between 1 high others
    → count_by (is_entity_pair x on_left a b) (members_of (other_side on_left p) p.semantic others)
    ≡ once (own_number on_left a b == x) (matches_if (other_side on_left p) p.semantic (at others (other_number on_left a b)))
members_count x on_left a b high others p ordered =
    (λ i. count_by (λ partner. entity_pair x on_left a b partner i) (members_of (other_side on_left p) p.semantic others))
    ∙ count_by-guarded (own_number on_left a b == x) (λ partner. other_number on_left a b == partner) (members_of (other_side on_left p) p.semantic others)
    ∙ ap (λ n. cond (own_number on_left a b == x) n 0) (counted_once (matches (other_side on_left p) p.semantic) (other_number on_left a b) high others 1 ordered)

plain : (n : ℕ) → 0 + n ≡ n
plain n = omega arith

turn_ups : (q : ℕ → Bool) (related was is : Bool) (partners : List ℕ)
    → sum_by (λ turn. cond turn.up (count_by q turn.partners) 0) (cond related (turn_if was is partners) []) ≡ cond (related && (not was && is)) (count_by q partners) 0
turn_ups q false was is partners = refl
turn_ups q true true true partners = refl
turn_ups q true true false partners = refl
turn_ups q true false true partners = plain (count_by q partners)
turn_ups q true false false partners = refl

turn_downs : (q : ℕ → Bool) (related was is : Bool) (partners : List ℕ)
    → sum_by (λ turn. cond turn.up 0 (count_by q turn.partners)) (cond related (turn_if was is partners) []) ≡ cond (related && (was && not is)) (count_by q partners) 0
turn_downs q false was is partners = refl
turn_downs q true true true partners = refl
turn_downs q true true false partners = plain (count_by q partners)
turn_downs q true false true partners = refl
turn_downs q true false false partners = refl

-- one policy's count moves by its turn: w and i are whether it matched the entity and matches it now, v and j the same of the pair's
one_moves : (related w i m own v j : Bool) → (own ≡ true → v ≡ w) → (own ≡ true → j ≡ i) → (own ≡ false → j ≡ v)
    → cond (related && (j && m)) 1 0 + cond (related && (w && not i)) (once own m) 0 ≡ cond (related && (v && m)) 1 0 + cond (related && (not w && i)) (once own m) 0
one_moves related w i m own v j e f g = grind (arith, common_steps)

one_least : (related w i m own v : Bool) → (own ≡ true → v ≡ w) → cond (related && (w && not i)) (once own m) 0 ≤ cond (related && (v && m)) 1 0
one_least related w i m own v e = grind (arith, common_steps)

pub entity_leads : (r : Relation) (on_left : Bool) (x : ℕ) (was is : Option Entity) (s t : State) (ds : List Delta) → ChangesEntity r on_left x was is s t
    → ((a b : ℕ) → ups ds a b ≡ entity_ups x on_left (turns_of r on_left was is (other_rows on_left r s) (policies_for r s)) a b)
    → ((a b : ℕ) → downs ds a b ≡ entity_downs x on_left (turns_of r on_left was is (other_rows on_left r s) (policies_for r s)) a b)
    → LeadCounts (count r s) (count r t) ds
entity_leads r on_left x was is s t ds changes up down = record {
  moves = λ a b. ap₂ (λ m n. m + n) (count_after a b) (downs_summed a b)
      ∙ sums_moved (before_of a b) (after_of a b) (up_of a b) (down_of a b) (row_moves a b) (policies_for r s)
      ∙ sym (ap₂ (λ m n. m + n) (count_own r on_left s a b) (ups_summed a b));
  least = λ a b. lower (downs ds a b) (count r s a b) (sum_by (down_of a b) (policies_for r s)) (sum_by (before_of a b) (policies_for r s))
      (downs_summed a b) (count_own r on_left s a b) (sum_by-le-sum_by (down_of a b) (before_of a b) (policies_for r s) (row_least a b));
}
  where
    own : ℕ → ℕ → Bool
    own a b = own_number on_left a b == x

    was_one : ℕ → ℕ → Option Entity
    was_one a b = at (own_rows on_left r s) (own_number on_left a b)

    is_one : ℕ → ℕ → Option Entity
    is_one a b = at (own_rows on_left r t) (own_number on_left a b)

    partner : ℕ → ℕ → Option Entity
    partner a b = at (other_rows on_left r s) (other_number on_left a b)

    holds : Option Entity → Policy → Bool
    holds e p = matches_if (own_side on_left p) p.semantic e

    member : ℕ → ℕ → Policy → Bool
    member a b p = matches_if (other_side on_left p) p.semantic (partner a b)

    before_of : ℕ → ℕ → ℕ × Policy → ℕ
    before_of a b row = cond (joins_own r on_left (was_one a b) (partner a b) row.1) 1 0

    after_of : ℕ → ℕ → ℕ × Policy → ℕ
    after_of a b row = cond (joins_own r on_left (is_one a b) (partner a b) row.1) 1 0

    up_of : ℕ → ℕ → ℕ × Policy → ℕ
    up_of a b row = cond (same_relation r row.1.relation && (not (holds was row.1) && holds is row.1)) (once (own a b) (member a b row.1)) 0

    down_of : ℕ → ℕ → ℕ × Policy → ℕ
    down_of a b row = cond (same_relation r row.1.relation && (holds was row.1 && not (holds is row.1))) (once (own a b) (member a b row.1)) 0

    count_after : (a b : ℕ) → count r t a b ≡ sum_by (after_of a b) (policies_for r s)
    count_after a b = count_own r on_left t a b
        ∙ (λ i. count_by (λ (row : ℕ × Policy). joins_own r on_left (is_one a b) (at (changes.partners i) (other_number on_left a b)) row.1) (changes.policies i))

    partners_of : Policy → List ℕ
    partners_of p = members_of (other_side on_left p) p.semantic (other_rows on_left r s)

    once_each : (a b : ℕ) (p : Policy) → count_by (is_entity_pair x on_left a b) (partners_of p) ≡ once (own a b) (member a b p)
    once_each a b p = members_count x on_left a b changes.high (other_rows on_left r s) p changes.ordered

    ups_summed : (a b : ℕ) → ups ds a b ≡ sum_by (up_of a b) (policies_for r s)
    ups_summed a b = up a b
        ∙ sum_by-flat_map (λ turn. cond turn.up (turn_count x on_left a b turn) 0) (λ row. turn_of r on_left was is (other_rows on_left r s) row.1) (policies_for r s)
        ∙ (λ i. sum_by (λ row. (turn_ups (is_entity_pair x on_left a b) (same_relation r row.1.relation) (holds was row.1) (holds is row.1) (partners_of row.1)
        ∙ ap (λ n. cond (same_relation r row.1.relation && (not (holds was row.1) && holds is row.1)) n 0) (once_each a b row.1)) i) (policies_for r s))

    downs_summed : (a b : ℕ) → downs ds a b ≡ sum_by (down_of a b) (policies_for r s)
    downs_summed a b = down a b
        ∙ sum_by-flat_map (λ turn. cond turn.up 0 (turn_count x on_left a b turn)) (λ row. turn_of r on_left was is (other_rows on_left r s) row.1) (policies_for r s)
        ∙ (λ i. sum_by (λ row. (turn_downs (is_entity_pair x on_left a b) (same_relation r row.1.relation) (holds was row.1) (holds is row.1) (partners_of row.1)
        ∙ ap (λ n. cond (same_relation r row.1.relation && (holds was row.1 && not (holds is row.1))) n 0) (once_each a b row.1)) i) (policies_for r s))

    it_was : (a b : ℕ) → own a b ≡ true → was_one a b ≡ was
    it_was a b e = ap (λ n. at (own_rows on_left r s) n) (eqb-true (own_number on_left a b) x e) ∙ changes.entity_was

    it_is : (a b : ℕ) → own a b ≡ true → is_one a b ≡ is
    it_is a b e = ap (λ n. at (own_rows on_left r t) n) (eqb-true (own_number on_left a b) x e) ∙ changes.entity_is

    another : (a b : ℕ) → own a b ≡ false → is_one a b ≡ was_one a b
    another a b e = changes.others (own_number on_left a b) (λ same. both_ways (own a b) e (eq-eqb (own_number on_left a b) x same))

    row_moves : (a b : ℕ) (row : ℕ × Policy) → after_of a b row + down_of a b row ≡ before_of a b row + up_of a b row
    row_moves a b row = one_moves (same_relation r row.1.relation) (holds was row.1) (holds is row.1) (member a b row.1) (own a b) (holds (was_one a b) row.1) (holds (is_one a b) row.1)
        (λ e. ap (λ o. holds o row.1) (it_was a b e)) (λ e. ap (λ o. holds o row.1) (it_is a b e)) (λ e. ap (λ o. holds o row.1) (another a b e))

    row_least : (a b : ℕ) (row : ℕ × Policy) → down_of a b row ≤ before_of a b row
    row_least a b row = one_least (same_relation r row.1.relation) (holds was row.1) (holds is row.1) (member a b row.1) (own a b) (holds (was_one a b) row.1)
        (λ e. ap (λ o. holds o row.1) (it_was a b e))

    lower : (d c m n : ℕ) → d ≡ m → c ≡ n → m ≤ n → d ≤ c
    lower d c m n e f h = omega arith
