-- What a change of one entity or of one policy is, and what it is that steps lead from one rule of counts to another
-- (docs/RULES.md, "Policies and grants").
use Rattle.std.specs.Prelude.{◌≡◌, ◌≢◌, ℕ, ◌≤◌, Bool, List}
use Rattle.std.specs.declared.option.Option.{Option}
use Rattle.ctrl_model.specs.declared.kinds.Relation.{Relation}
use Rattle.ctrl_model.specs.Numbered.{at, Between}
use Rattle.ctrl_model.specs.State.{Entity, Policy, State}
use Rattle.ctrl_model.specs.Grants.{policies_for}
use Rattle.grant_denorm.specs.declared.deltas.Delta.{Delta}
use Rattle.grant_denorm.specs.Deltas.{downs}
use Rattle.grant_denorm.specs.MovedCounts.{Moves}
use Rattle.grant_moves.specs.EntitySides.{left_rows, right_rows, own_rows, other_rows}

-- Steps lead from one rule of counts to another: they move each count from the one to the other, and no pair has more steps
-- down than its count, so that no order of the steps takes a count below 0.
pub record LeadCounts (before after : ℕ → ℕ → ℕ) (ds : List Delta) : Type 0 where
  pub moves : Moves before after ds
  pub least : (a b : ℕ) → downs ds a b ≤ before a b

-- One entity, on one side of a relation, differs between two states; no other entity of the two sides does, and no policy of
-- the kind that can grant the relation. The numbers of the other side ascend.
pub record ChangesEntity (r : Relation) (on_left : Bool) (x : ℕ) (was is : Option Entity) (s t : State) : Type 0 where
  pub policies : policies_for r t ≡ policies_for r s
  pub entity_was : at (own_rows on_left r s) x ≡ was
  pub entity_is : at (own_rows on_left r t) x ≡ is
  pub others : (n : ℕ) → n ≢ x → at (own_rows on_left r t) n ≡ at (own_rows on_left r s) n
  pub partners : other_rows on_left r t ≡ other_rows on_left r s
  pub high : ℕ
  pub ordered : Between 1 high (other_rows on_left r s)

-- One policy of the kind that can grant a relation differs between two states; no other policy of the kind does, and no entity
-- of the relation's two sides. The numbers of the policies, before and after, and those of both sides ascend.
pub record ChangesPolicy (r : Relation) (n : ℕ) (was is : Option Policy) (s t : State) : Type 0 where
  pub left : left_rows r t ≡ left_rows r s
  pub right : right_rows r t ≡ right_rows r s
  pub policy_was : at (policies_for r s) n ≡ was
  pub policy_is : at (policies_for r t) n ≡ is
  pub others : (m : ℕ) → m ≢ n → at (policies_for r t) m ≡ at (policies_for r s) m
  pub high : ℕ
  pub ordered : Between 1 high (policies_for r s)
  pub high_after : ℕ
  pub ordered_after : Between 1 high_after (policies_for r t)
  pub left_high : ℕ
  pub left_ordered : Between 1 left_high (left_rows r s)
  pub right_high : ℕ
  pub right_ordered : Between 1 right_high (right_rows r s)
