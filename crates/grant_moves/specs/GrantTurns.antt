-- What a change of an entity or of a policy turns among the grants (docs/RULES.md, "Policies and grants").
use Rattle.std.specs.Prelude.{ℕ, Bool, true, false, cond, List, [], ◌∷◌, None, Some}
use Rattle.std.specs.declared.option.Option.{Option}
use Rattle.std.specs.List.{flat_map}
use Rattle.ctrl_model.specs.declared.kinds.Relation.{Relation}
use Rattle.ctrl_model.specs.State.{Entity, Policy, State}
use Rattle.ctrl_model.specs.Grants.{same_relation}
use Rattle.grant_denorm.specs.declared.deltas.Cross.{Cross}
use Rattle.grant_denorm.specs.declared.deltas.Turn.{Turn}
use Rattle.grant_moves.specs.EntitySides.{left_rows, right_rows, own_side, other_side, members_of, matches_if}

-- What one policy grants an entity from a change on, or grants it no more: nothing turns where the policy matched the entity
-- before and matches it after, or does neither.
abbrev pub turn_if : Bool → Bool → List ℕ → List Turn
turn_if was is partners =
    cond was (cond is [] (record { up = false; partners = partners } ∷ [])) (cond is (record { up = true; partners = partners } ∷ []) [])

-- The turn of one policy for an entity on a side of a relation that was one way and is another. Its partners are those that
-- the policy's other side matches.
abbrev pub turn_of : Relation → Bool → Option Entity → Option Entity → List (ℕ × Entity) → Policy → List Turn
turn_of r on_left was is others p = cond (same_relation r p.relation)
    (turn_if (matches_if (own_side on_left p) p.semantic was) (matches_if (own_side on_left p) p.semantic is)
    (members_of (other_side on_left p) p.semantic others)) []

-- The turns of all policies, in the order of their numbers.
abbrev pub turns_of : Relation → Bool → Option Entity → Option Entity → List (ℕ × Entity) → List (ℕ × Policy) → List Turn
turns_of r on_left was is others policies = flat_map (λ row. turn_of r on_left was is others row.1) policies

-- The product of no members.
abbrev pub no_cross : Cross
no_cross = record { left = []; right = [] }

-- The members of a policy's two sides, whose product are the pairs that it grants by a relation: none where the policy is
-- absent, or is of another relation.
abbrev pub cross_of : Relation → State → Option Policy → Cross
cross_of r s None = no_cross
cross_of r s (Some p) = cond (same_relation r p.relation)
    (record { left = members_of p.left p.semantic (left_rows r s); right = members_of p.right p.semantic (right_rows r s) }) no_cross
