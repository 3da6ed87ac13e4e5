-- How many policies grant a pair (docs/RULES.md, "Policies and grants").
use Rattle.std.specs.Prelude.{ℕ, Bool, true, false, ◌&&◌, nat_lt, List, None, Some, count_by, sum_by}
use Rattle.std.specs.declared.option.Option.{Option}
use Rattle.std.specs.Option.{option_map}
use Rattle.ctrl_model.specs.declared.kinds.Relation.{Relation}
use Rattle.ctrl_model.specs.declared.kinds.Relation.TheVariants.{Dial, Bind, IdentityRouter, ServiceRouter}
use Rattle.ctrl_model.specs.Numbered.{at, numbers}
use Rattle.ctrl_model.specs.State.{Entity, Policy, State, as_entity}
use Rattle.ctrl_model.specs.Matches.{matches}

-- Whether two relations are the same one.
abbrev pub same_relation : Relation → Relation → Bool
same_relation Dial Dial = true
same_relation Dial Bind = false
same_relation Dial IdentityRouter = false
same_relation Dial ServiceRouter = false
same_relation Bind Dial = false
same_relation Bind Bind = true
same_relation Bind IdentityRouter = false
same_relation Bind ServiceRouter = false
same_relation IdentityRouter Dial = false
same_relation IdentityRouter Bind = false
same_relation IdentityRouter IdentityRouter = true
same_relation IdentityRouter ServiceRouter = false
same_relation ServiceRouter Dial = false
same_relation ServiceRouter Bind = false
same_relation ServiceRouter IdentityRouter = false
same_relation ServiceRouter ServiceRouter = true

-- Whether a policy joins two entities by a relation: it is of that relation, and its sides match the two.
abbrev pub joins : Relation → Policy → Entity → Entity → Bool
joins relation p e f = same_relation relation p.relation && (matches p.left p.semantic e && matches p.right p.semantic f)

-- The policies of the kind that can grant a relation.
abbrev pub policies_for : Relation → State → List (ℕ × Policy)
policies_for Dial s = s.service_policies.rows
policies_for Bind s = s.service_policies.rows
policies_for IdentityRouter s = s.edge_router_policies.rows
policies_for ServiceRouter s = s.service_edge_router_policies.rows

-- The entity on the left of a relation: an identity, but a service where the relation joins services to routers.
abbrev pub left_entity : Relation → State → ℕ → Option Entity
left_entity Dial s a = at s.identities.rows a
left_entity Bind s a = at s.identities.rows a
left_entity IdentityRouter s a = at s.identities.rows a
left_entity ServiceRouter s a = at s.services.rows a

-- The entity on the right of a relation: a service for Dial and Bind, else a router.
abbrev pub right_entity : Relation → State → ℕ → Option Entity
right_entity Dial s b = at s.services.rows b
right_entity Bind s b = at s.services.rows b
right_entity IdentityRouter s b = option_map as_entity (at s.routers.rows b)
right_entity ServiceRouter s b = option_map as_entity (at s.routers.rows b)

-- A number that two entities have together; 0 where one of them is absent.
abbrev pub on_both : Option Entity → Option Entity → (Entity → Entity → ℕ) → ℕ
on_both None f n = 0
on_both (Some e) None n = 0
on_both (Some e) (Some f) n = n e f

-- The grant count of a pair: how many present policies join the two entities by the relation; 0 where one is absent.
abbrev pub count : Relation → State → ℕ → ℕ → ℕ
count relation s a b =
    on_both (left_entity relation s a) (right_entity relation s b) (λ e f. count_by (λ row. joins relation row.1 e f) (policies_for relation s))

-- A pair is granted where its count is above 0.
abbrev pub is_granted : Relation → State → ℕ → ℕ → Bool
is_granted relation s a b = nat_lt 0 (count relation s a b)

-- The numbers that can stand on the left of a relation.
abbrev pub left_numbers : Relation → State → List ℕ
left_numbers Dial s = numbers s.identities.rows
left_numbers Bind s = numbers s.identities.rows
left_numbers IdentityRouter s = numbers s.identities.rows
left_numbers ServiceRouter s = numbers s.services.rows

-- The numbers that can stand on the right of a relation.
abbrev pub right_numbers : Relation → State → List ℕ
right_numbers Dial s = numbers s.services.rows
right_numbers Bind s = numbers s.services.rows
right_numbers IdentityRouter s = numbers s.routers.rows
right_numbers ServiceRouter s = numbers s.routers.rows

-- How many pairs a relation grants.
abbrev pub granted_pairs : Relation → State → ℕ
granted_pairs relation s = sum_by (λ a. count_by (is_granted relation s a) (right_numbers relation s)) (left_numbers relation s)
