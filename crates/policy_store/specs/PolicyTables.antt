-- What a store of policies holds, as contracts see it: a table of each kind of policy (docs/RULES.md, "Records and numbers").
use Rattle.std.specs.Prelude.{ℕ, Bool, false, List}
use Rattle.std.specs.declared.option.Option.{Option}
use Rattle.ctrl_model.specs.declared.kinds.Kind.{Kind}
use Rattle.ctrl_model.specs.declared.kinds.Kind.TheVariants as kind
use Rattle.ctrl_model.specs.declared.kinds.Relation.{Relation}
use Rattle.ctrl_model.specs.declared.kinds.Relation.TheVariants.{IdentityRouter, ServiceRouter}
use Rattle.ctrl_model.specs.ValueForms.{is_service_relation}
use Rattle.ctrl_model.specs.Grants.{same_relation}
use Rattle.ctrl_model.specs.Numbered.{Table, no_rows, with_new, with_edit, with_removed, with_each}
use Rattle.ctrl_model.specs.PolicyCommands.{replaced_by}
use Rattle.ctrl_model.specs.Rules.{forget_left, forget_right}
use Rattle.ctrl_model.specs.State.{Policy, policy_named}
pub use Rattle.ctrl_model.specs.Tables.{is_policy_kind, left_kind, right_kind}

-- The tables.
pub record PolicyTables : Type 0 where
  pub service_policies : Table Policy
  pub edge_router_policies : Table Policy
  pub service_edge_router_policies : Table Policy

-- A store without policies.
abbrev pub no_policies : PolicyTables
no_policies = record { service_policies = no_rows; edge_router_policies = no_rows; service_edge_router_policies = no_rows }

-- The table of a kind. What is no kind of policy has no policies.
abbrev pub policies_of : Kind → PolicyTables → Table Policy
policies_of kind.ServicePolicy t = t.service_policies
policies_of kind.EdgeRouterPolicy t = t.edge_router_policies
policies_of kind.ServiceEdgeRouterPolicy t = t.service_edge_router_policies
policies_of _ t = no_rows

-- The tables with another table of a kind.
abbrev pub with_policies : Kind → Table Policy → PolicyTables → PolicyTables
with_policies kind.ServicePolicy ps t = record t { service_policies = ps }
with_policies kind.EdgeRouterPolicy ps t = record t { edge_router_policies = ps }
with_policies kind.ServiceEdgeRouterPolicy ps t = record t { service_edge_router_policies = ps }
with_policies _ ps t = t

-- The policies of a kind.
abbrev pub policies : Kind → PolicyTables → List (ℕ × Policy)
policies k t = (policies_of k t).rows

-- The number that the next policy of a kind gets.
abbrev pub next_of : Kind → PolicyTables → ℕ
next_of k t = (policies_of k t).next

-- The number of the policy of a kind that has a name, if one has it.
abbrev pub number_of : Kind → List ℕ → PolicyTables → Option ℕ
number_of k name t = policy_named (policies k t) name

-- The tables with one more policy of a kind, under the next number.
abbrev pub with_policy : Kind → Policy → PolicyTables → PolicyTables
with_policy k p t = with_policies k (with_new p (policies_of k t)) t

-- The tables, of which one policy has another's parts under its own name.
abbrev pub with_replaced : Kind → ℕ → Policy → PolicyTables → PolicyTables
with_replaced k n p t = with_policies k (with_edit n (replaced_by p) (policies_of k t)) t

-- The tables without one policy.
abbrev pub without_policy : Kind → ℕ → PolicyTables → PolicyTables
without_policy k n t = with_policies k (with_removed n (policies_of k t)) t

-- The tables with another next number of a kind.
abbrev pub with_next : Kind → ℕ → PolicyTables → PolicyTables
with_next k next t = with_policies k (record (policies_of k t) { next = next }) t

-- The tables, of which no side of a kind of entity has an `@` name.
abbrev pub forgetting : Kind → List ℕ → PolicyTables → PolicyTables
forgetting kind.Identity name t = record t {
  service_policies = with_each (forget_left name) t.service_policies;
  edge_router_policies = with_each (forget_left name) t.edge_router_policies;
}
forgetting kind.Service name t = record t {
  service_policies = with_each (forget_right name) t.service_policies;
  service_edge_router_policies = with_each (forget_left name) t.service_edge_router_policies;
}
forgetting kind.Router name t = record t {
  edge_router_policies = with_each (forget_right name) t.edge_router_policies;
  service_edge_router_policies = with_each (forget_right name) t.service_edge_router_policies;
}
forgetting _ name t = t

-- Whether a relation fits a kind of policy.
abbrev pub fits : Kind → Relation → Bool
fits kind.ServicePolicy r = is_service_relation r
fits kind.EdgeRouterPolicy r = same_relation IdentityRouter r
fits kind.ServiceEdgeRouterPolicy r = same_relation ServiceRouter r
fits _ r = false
