-- The commands that show what is granted and how much there is (docs/RULES.md, "What is shown").
use Rattle.std.specs.Prelude.{ℕ, ◌+◌, nat_lt, List, length, map, filter, None, unwrap_or}
use Rattle.ctrl_model.specs.declared.kinds.Relation.TheVariants.{Dial, Bind, IdentityRouter, ServiceRouter}
use Rattle.ctrl_model.specs.declared.refusals.Field.TheVariants as field
use Rattle.ctrl_model.specs.declared.replies.Reply.{Reply}
use Rattle.ctrl_model.specs.declared.replies.Reply.TheVariants as reply
use Rattle.ctrl_model.specs.declared.replies.Tally.{Tally}
use Rattle.ctrl_model.specs.State.{State, Entity, entity_named, as_entity}
use Rattle.ctrl_model.specs.Grants.{count, is_granted, granted_pairs}
use Rattle.ctrl_model.specs.Rules.{shown, unknown_if_absent}

-- The name and the count of an entity.
abbrev pub tally_of : (ℕ → ℕ) → ℕ × Entity → Tally
tally_of counts row = record { name = row.1.name; count = counts row.0 }

-- The names of the entities with a count above 0, each with its count, in the order of their numbers.
abbrev pub tallies : (ℕ → ℕ) → List (ℕ × Entity) → List Tally
tallies counts rows = map (tally_of counts) (filter (λ row. nat_lt 0 (counts row.0)) rows)

-- The routers as entities, under their numbers.
abbrev pub router_entities : State → List (ℕ × Entity)
router_entities s = map (λ row. (row.0, as_entity row.1)) s.routers.rows

-- What an identity is granted: services to bind, services to dial, and routers.
abbrev pub grants_of : ℕ → State → Reply
grants_of i s = reply.Grants (tallies (count Bind s i) s.services.rows) (tallies (count Dial s i) s.services.rows)
    (tallies (count IdentityRouter s i) (router_entities s))

-- The answer to ShowGrants.
abbrev pub show_grants : List ℕ → State → Reply × State
show_grants identity s = shown (unknown_if_absent field.Identity (entity_named s.identities.rows identity)) s
    (grants_of (unwrap_or (entity_named s.identities.rows identity) 0) s)

-- The names of the services that an identity may dial, in the order of their numbers.
abbrev pub services_of : ℕ → State → Reply
services_of i s = reply.Services (map (λ row. row.1.name) (filter (λ row. is_granted Dial s i row.0) s.services.rows))

-- The answer to ListServices.
abbrev pub list_services : List ℕ → State → Reply × State
list_services identity s = shown (unknown_if_absent field.Identity (entity_named s.identities.rows identity)) s
    (services_of (unwrap_or (entity_named s.identities.rows identity) 0) s)

-- How many pairs all four relations grant.
abbrev pub grants_in_all : State → ℕ
grants_in_all s = granted_pairs Dial s + granted_pairs Bind s + granted_pairs IdentityRouter s + granted_pairs ServiceRouter s

-- How many there are of each kind, and of granted pairs.
abbrev pub counts_of : State → Reply
counts_of s = reply.Counts (length s.circuits.rows) (grants_in_all s) (length s.identities.rows) (length s.links.rows)
    (length s.service_policies.rows + length s.edge_router_policies.rows + length s.service_edge_router_policies.rows)
    (length s.routers.rows) (length s.services.rows) (length s.terminators.rows)

-- The answer to ShowCounts.
abbrev pub show_counts : State → Reply × State
show_counts s = shown None s (counts_of s)
