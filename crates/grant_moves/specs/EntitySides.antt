-- The two sides of a relation: who stands on them, and whom a side of a policy matches (docs/RULES.md, "Policies and
-- grants").
use Rattle.std.specs.Prelude.{ℕ, Bool, false, cond, List, filter}
use Rattle.std.specs.declared.option.Option.{Option}
use Rattle.std.specs.Option.{option_map_or}
use Rattle.ctrl_model.specs.declared.kinds.Side.{Side}
use Rattle.ctrl_model.specs.declared.kinds.Semantic.{Semantic}
use Rattle.ctrl_model.specs.declared.kinds.Relation.{Relation}
use Rattle.ctrl_model.specs.declared.kinds.Relation.TheVariants.{Dial, Bind, IdentityRouter, ServiceRouter}
use Rattle.ctrl_model.specs.Numbered.{numbers}
use Rattle.ctrl_model.specs.State.{Entity, Policy, State}
use Rattle.ctrl_model.specs.ShowCommands.{router_entities}
use Rattle.ctrl_model.specs.Matches.{matches}

-- The entities on the left of a relation, under their numbers: identities, but services where the relation joins services to
-- routers.
abbrev pub left_rows : Relation → State → List (ℕ × Entity)
left_rows Dial s = s.identities.rows
left_rows Bind s = s.identities.rows
left_rows IdentityRouter s = s.identities.rows
left_rows ServiceRouter s = s.services.rows

-- The entities on the right of a relation, under their numbers: services for Dial and Bind, else routers.
abbrev pub right_rows : Relation → State → List (ℕ × Entity)
right_rows Dial s = s.services.rows
right_rows Bind s = s.services.rows
right_rows IdentityRouter s = router_entities s
right_rows ServiceRouter s = router_entities s

-- The entities of the side on which an entity stands: the left one, or else the right one.
abbrev pub own_rows : Bool → Relation → State → List (ℕ × Entity)
own_rows on_left r s = cond on_left (left_rows r s) (right_rows r s)

-- The entities of the other side, with which it can be paired.
abbrev pub other_rows : Bool → Relation → State → List (ℕ × Entity)
other_rows on_left r s = cond on_left (right_rows r s) (left_rows r s)

-- The side of a policy on which an entity stands.
abbrev pub own_side : Bool → Policy → Side
own_side on_left p = cond on_left p.left p.right

-- The other side of the policy.
abbrev pub other_side : Bool → Policy → Side
other_side on_left p = cond on_left p.right p.left

-- The numbers of the entities that a side matches, ascending.
abbrev pub members_of : Side → Semantic → List (ℕ × Entity) → List ℕ
members_of side semantic rows = numbers (filter (λ row. matches side semantic row.1) rows)

-- Whether a side matches an entity that may be absent: no side matches an absent one.
abbrev pub matches_if : Side → Semantic → Option Entity → Bool
matches_if side semantic e = option_map_or (matches side semantic) e false
