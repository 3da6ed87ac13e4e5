-- When a state is valid (docs/RULES.md, "Valid states").
use Rattle.std.specs.Prelude.{◌≡◌, ℕ, ◌≤◌, ◌==◌, Bool, true, false, not, ◌&&◌, List, length, Some, is_some}
use Rattle.std.specs.declared.option.Option.{Option}
use Rattle.std.specs.List.{list_all}
use Rattle.ctrl_model.specs.declared.kinds.Kind.{Kind}
use Rattle.ctrl_model.specs.declared.kinds.Kind.TheVariants as kind
use Rattle.ctrl_model.specs.declared.kinds.Side.{Side}
use Rattle.ctrl_model.specs.declared.kinds.Relation.{Relation}
use Rattle.ctrl_model.specs.declared.kinds.Relation.TheVariants.{IdentityRouter, ServiceRouter}
use Rattle.ctrl_model.specs.NameForm.{is_name, is_instance}
use Rattle.ctrl_model.specs.ValueForms.{are_attributes, is_stored_side, is_service_relation, is_cost, is_link_cost, is_latency}
use Rattle.ctrl_model.specs.declared.intercepts.Intercept.{Intercept}
use Rattle.ctrl_model.specs.InterceptForm.{is_intercept}
use Rattle.ctrl_model.specs.Limits.{limit, last_next, last_serial}
use Rattle.ctrl_model.specs.Numbered.{Table, at, is_present, Between}
use Rattle.ctrl_model.specs.State.{State, Entity, Router, Link, Policy, Terminator}
use Rattle.ctrl_model.specs.Tables.{Record, table, has_names, record_name, named, left_kind, right_kind}
use Rattle.ctrl_model.specs.Grants.{same_relation}
use Rattle.ctrl_model.specs.Rules.{attributes_full}
use Rattle.ctrl_model.specs.Settling.{repair}

-- A table is numbered: from 1, ascending, below the next number, which has an end; and it keeps its limit.
pub record ValidNumbers {R : Type 0} (most : ℕ) (rows : List (ℕ × R)) (next : ℕ) : Type 0 where
  pub first : 1 ≤ next
  pub last : next ≤ last_next
  pub ordered : Between 1 next rows
  pub few : length rows ≤ most

-- No two records share a name.
abbrev pub HaveUniqueNames : {R : Type 0} → (R → List ℕ) → List (ℕ × R) → Type 0
HaveUniqueNames {R} name_of rows =
    (a b : ℕ) (r t : R) → at rows a ≡ Some r → at rows b ≡ Some t → name_of r ≡ name_of t → a ≡ b

-- An identity or a service: a name, and at most 64 attributes without repeats.
abbrev pub is_valid_entity : Entity → Bool
is_valid_entity e = is_name e.name && are_attributes e.attributes

-- A router: as an entity, with a cost in its range.
abbrev pub is_valid_router : Router → Bool
is_valid_router r = is_name r.name && (are_attributes r.attributes && is_cost r.cost)

-- A link: a name, two different routers, and costs in their ranges.
abbrev pub is_valid_link : Link → Bool
is_valid_link l = is_name l.name && (not (l.a == l.b) && (is_link_cost l.cost && (is_latency l.latency_a && is_latency l.latency_b)))

-- The `@` names of a side are those of present entities.
abbrev pub are_found : (List ℕ → Option ℕ) → Side → Bool
are_found find_number side = list_all (λ name. is_some (find_number name)) side.ids

-- A policy: a name, and two sides as they may be stored.
abbrev pub is_valid_policy : Policy → Bool
is_valid_policy p = is_name p.name && (is_stored_side p.left && is_stored_side p.right)

-- Whether a policy of a kind may have a relation.
abbrev pub may_relate : Kind → Relation → Bool
may_relate kind.ServicePolicy relation = is_service_relation relation
may_relate kind.EdgeRouterPolicy relation = same_relation IdentityRouter relation
may_relate kind.ServiceEdgeRouterPolicy relation = same_relation ServiceRouter relation
may_relate k relation = false

-- A policy of a kind in a state: its relation is one of the kind's, and its `@` names are of present entities.
abbrev pub is_valid_policy_in : Kind → State → Policy → Bool
is_valid_policy_in k s p =
    is_valid_policy p && (may_relate k p.relation
    && (are_found (named (left_kind k) s) p.left && are_found (named (right_kind k) s) p.right))

-- A terminator: an instance, and a cost in its range.
abbrev pub is_valid_terminator : Terminator → Bool
is_valid_terminator e = is_instance e.instance && is_cost e.cost

-- Each record of a kind passes a test.
abbrev pub each_passes : {R : Type 0} → (R → Bool) → List (ℕ × R) → Bool
each_passes test rows = list_all (λ row. test row.1) rows

-- Whether a record of a kind is valid in a state. Of circuits repairing says all.
abbrev pub is_valid : (k : Kind) → State → Record k → Bool
is_valid kind.Identity s e = is_valid_entity e
is_valid kind.Service s e = is_valid_entity e
is_valid kind.Router s r = is_valid_router r
is_valid kind.Link s l = is_valid_link l
is_valid kind.ServicePolicy s p = is_valid_policy_in kind.ServicePolicy s p
is_valid kind.EdgeRouterPolicy s p = is_valid_policy_in kind.EdgeRouterPolicy s p
is_valid kind.ServiceEdgeRouterPolicy s p = is_valid_policy_in kind.ServiceEdgeRouterPolicy s p
is_valid kind.Terminator s e = is_valid_terminator e
is_valid kind.Circuit s c = true
is_valid kind.Attribute s u = true

-- A table of records of a kind is valid in a state: it is numbered within the kind's limit, the names differ where the kind has
-- names, and each record is valid.
pub record ValidTable (k : Kind) (s : State) (t : Table (Record k)) : Type 0 where
  pub numbers : ValidNumbers (limit k) t.rows t.next
  pub names : has_names k ≡ true → HaveUniqueNames (record_name k) t.rows
  pub each : each_passes (is_valid k s) t.rows ≡ true

-- An intercept under the number of a service: the service is present.
abbrev pub is_valid_intercept : State → ℕ × Intercept → Bool
is_valid_intercept s row = is_present s.services.rows row.0 && is_intercept row.1

-- A valid state: the table of each kind is valid, the setting is in its range, no more attributes are in use than may be, repairing
-- changes nothing, the intercepts ascend by their services, each is valid, and the serial has an end. Circuits that settling would
-- revoke may stand: those of a folder written before circuits were revoked, until a command has an effect.
pub record ValidState (s : State) : Type 0 where
  pub kinds : (k : Kind) → ValidTable k s (table k s)
  pub setting : is_link_cost s.least_router_cost ≡ true
  pub attributes : attributes_full s ≡ false
  pub repaired : repair s ≡ s
  pub ordered : Between 1 s.services.next s.intercepts
  pub intercepts : list_all (is_valid_intercept s) s.intercepts ≡ true
  pub counted : s.serial ≤ last_serial
