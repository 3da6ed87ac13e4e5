-- Where one policy changes, the steps from its product before to its product after lead from the counts before it to the
-- counts after it.
use Rattle.std.proofs.Common.{◌≡◌, ◌≢◌, ℕ, ◌+◌, ◌≤◌, ◌==◌, Bool, true, false, not, cond, ◌&&◌, Option, None, Some, List, refl, sym, ◌∙◌, ap, ap₂, arith, eq-eqb}
use Rattle.std.proofs.lemmas.Bool.{both_ways}
use Rattle.ctrl_model.specs.declared.kinds.Relation.{Relation}
use Rattle.ctrl_model.specs.Numbered.{at, without, Between}
use Rattle.ctrl_model.specs.State.{State, Policy}
use Rattle.ctrl_model.specs.Matches.{matches}
use Rattle.ctrl_model.specs.Grants.{same_relation, policies_for, count}
use Rattle.ctrl_model.proofs.NumberedLaws.{at-without, Between-more, Between-without, same_numbered}
use Rattle.grant_denorm.specs.declared.deltas.Cross.{Cross}
use Rattle.grant_denorm.specs.declared.deltas.Delta.{Delta}
use Rattle.grant_denorm.specs.Deltas.{ups, downs, has_pair, policy_ups, policy_downs}
use Rattle.grant_moves.specs.EntitySides.{left_rows, right_rows, members_of}
use Rattle.grant_moves.specs.GrantTurns.{no_cross, cross_of}
use Rattle.grant_moves.specs.CountMoves.{LeadCounts, ChangesPolicy}
use Rattle.grant_moves.proofs.CountRules.{joins_if, joined, count_joined}
use Rattle.grant_moves.proofs.MemberCounts.{passes_if, members_among, counted_beside}

-- a policy's product has the pairs that the policy joins
product_has : (r : Relation) (s : State) (a b left_high right_high : ℕ) → Between 1 left_high (left_rows r s) → Between 1 right_high (right_rows r s)
    → (o : Option Policy) → has_pair (cross_of r s o) a b ≡ passes_if (joins_if r (at (left_rows r s) a) (at (right_rows r s) b)) o
product_has r s a b left_high right_high left right None = refl
product_has r s a b left_high right_high left right (Some p) =
    by (same_relation r p.relation) ∙ ap₂ (λ m n. same_relation r p.relation && (m && n))
    (members_among (matches p.left p.semantic) a left_high (left_rows r s) 1 left) (members_among (matches p.right p.semantic) b right_high (right_rows r s) 1 right)
  where
    members : Cross
    members = record { left = members_of p.left p.semantic (left_rows r s); right = members_of p.right p.semantic (right_rows r s) }

    by : (related : Bool) → has_pair (cond related members no_cross) a b ≡ (related && has_pair members a b)
    by true = refl
    by false = refl

-- the other policies are the same
others_stay : (n high high_after : ℕ) (before after : List (ℕ × Policy)) → Between 1 high before → Between 1 high_after after
    → ((m : ℕ) → m ≢ n → at after m ≡ at before m) → without after n ≡ without before n
others_stay n high high_after before after ordered ordered_after others =
    same_numbered (high + high_after) (without after n) (without before n) 1
    (Between-more high_after (without after n) 1 1 (high + high_after) (omega arith) (omega arith) (Between-without high_after after 1 n ordered_after))
    (Between-more high (without before n) 1 1 (high + high_after) (omega arith) (omega arith) (Between-without high before 1 n ordered))
    (λ m. at-without high_after after 1 n m ordered_after ∙ by m (n == m) refl ∙ sym (at-without high before 1 n m ordered))
  where
    by : (m : ℕ) (t : Bool) → (n == m) ≡ t → cond t None (at after m) ≡ cond t None (at before m)
    by m true e = refl
    by m false e = others m (λ same. both_ways (n == m) e (eq-eqb n m (sym same)))

moved : (rest before after up down : ℕ) (was is : Bool) → before ≡ rest + cond was 1 0 → after ≡ rest + cond is 1 0
    → up ≡ cond (not was && is) 1 0 → down ≡ cond (was && not is) 1 0 → (after + down ≡ before + up) × (down ≤ before)
moved rest before after up down true true b a u d = (omega arith, omega arith)
moved rest before after up down true false b a u d = (omega arith, omega arith)
moved rest before after up down false true b a u d = (omega arith, omega arith)
moved rest before after up down false false b a u d = (omega arith, omega arith)

pub policy_leads : (r : Relation) (n : ℕ) (was is : Option Policy) (s t : State) (ds : List Delta) → ChangesPolicy r n was is s t
    → ((a b : ℕ) → ups ds a b ≡ policy_ups (cross_of r s was) (cross_of r s is) a b)
    → ((a b : ℕ) → downs ds a b ≡ policy_downs (cross_of r s was) (cross_of r s is) a b)
    → LeadCounts (count r s) (count r t) ds
policy_leads r n was is s t ds changes up down = record { moves = λ a b. (both a b).0; least = λ a b. (both a b).1 }
  where
    joins : ℕ → ℕ → Policy → Bool
    joins a b p = joins_if r (at (left_rows r s) a) (at (right_rows r s) b) p

    rest : ℕ → ℕ → ℕ
    rest a b = joined r (at (left_rows r s) a) (at (right_rows r s) b) (without (policies_for r s) n)

    count_before : (a b : ℕ) → count r s a b ≡ rest a b + cond (passes_if (joins a b) was) 1 0
    count_before a b = count_joined r s a b ∙ sym (counted_beside (joins a b) n changes.high (policies_for r s) 1 changes.ordered)
        ∙ ap (λ o. rest a b + cond (passes_if (joins a b) o) 1 0) changes.policy_was

    count_after : (a b : ℕ) → count r t a b ≡ rest a b + cond (passes_if (joins a b) is) 1 0
    count_after a b = count_joined r t a b ∙ (λ i. joined r (at (changes.left i) a) (at (changes.right i) b) (policies_for r t))
        ∙ sym (counted_beside (joins a b) n changes.high_after (policies_for r t) 1 changes.ordered_after)
        ∙ ap₂ (λ rows o. joined r (at (left_rows r s) a) (at (right_rows r s) b) rows + cond (passes_if (joins a b) o) 1 0)
        (others_stay n changes.high changes.high_after (policies_for r s) (policies_for r t) changes.ordered changes.ordered_after changes.others) changes.policy_is

    product : (a b : ℕ) (o : Option Policy) → has_pair (cross_of r s o) a b ≡ passes_if (joins a b) o
    product a b o = product_has r s a b changes.left_high changes.right_high changes.left_ordered changes.right_ordered o

    both : (a b : ℕ) → (count r t a b + downs ds a b ≡ count r s a b + ups ds a b) × (downs ds a b ≤ count r s a b)
    both a b = moved (rest a b) (count r s a b) (count r t a b) (ups ds a b) (downs ds a b) (passes_if (joins a b) was) (passes_if (joins a b) is)
        (count_before a b) (count_after a b)
        (up a b ∙ ap₂ (λ v w. cond (not v && w) 1 0) (product a b was) (product a b is))
        (down a b ∙ ap₂ (λ v w. cond (v && not w) 1 0) (product a b was) (product a b is))
