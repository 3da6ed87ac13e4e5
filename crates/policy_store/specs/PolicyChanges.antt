-- What a command on policies changes, in the policies themselves and in a state (docs/PROMISES.md, "The store of policies").
use Rattle.std.specs.Prelude.{◌≡◌, true, ℕ, List, Some}
use Rattle.ctrl_model.specs.declared.kinds.Kind.{Kind}
use Rattle.ctrl_model.specs.State.{State, Policy}
use Rattle.policy_store.specs.PolicyTables.{PolicyTables, is_policy_kind, policies, number_of}
use Rattle.policy_store.specs.PolicyTables as tables
use Rattle.policy_store.specs.PolicyRules.{is_there}
use Rattle.policy_store.specs.declared.changes.PolicyChange.{PolicyChange}
use Rattle.policy_store.specs.declared.changes.PolicyChange.TheVariants as change

-- The policies of a state.
abbrev pub tables_of : State → PolicyTables
tables_of s = record {
  service_policies = s.service_policies;
  edge_router_policies = s.edge_router_policies;
  service_edge_router_policies = s.service_edge_router_policies;
}

-- A state with these policies in place of its own.
abbrev pub with_tables : PolicyTables → State → State
with_tables p s = record s {
  service_policies = p.service_policies;
  edge_router_policies = p.edge_router_policies;
  service_edge_router_policies = p.service_edge_router_policies;
}

-- The policies of a kind in a state.
abbrev pub policies_in : Kind → State → List (ℕ × Policy)
policies_in k s = policies k (tables_of s)

-- The policies after a change.
abbrev pub after_policy_change : PolicyChange → PolicyTables → PolicyTables
after_policy_change (change.Add k p) t = tables.with_policy k p t
after_policy_change (change.Replace k n p) t = tables.with_replaced k n p t
after_policy_change (change.Remove k n) t = tables.without_policy k n t

-- What a change needs of the policies: that its kind is one of policies, that the policy that it replaces has the name, and that the one
-- that it removes is there.
abbrev pub CanChangePolicies : PolicyChange → PolicyTables → Type 0
CanChangePolicies (change.Add k p) t = is_policy_kind k ≡ true
CanChangePolicies (change.Replace k n p) t = (is_policy_kind k ≡ true) × (number_of k p.name t ≡ Some n)
CanChangePolicies (change.Remove k n) t = (is_policy_kind k ≡ true) × (is_there k n t ≡ true)

-- The state with one more policy.
abbrev pub with_policy : Kind → Policy → State → State
with_policy k p s = with_tables (tables.with_policy k p (tables_of s)) s

-- The state, of which one policy has another's parts under its own name.
abbrev pub with_replaced : Kind → ℕ → Policy → State → State
with_replaced k n p s = with_tables (tables.with_replaced k n p (tables_of s)) s

-- The state without one policy.
abbrev pub without_policy : Kind → ℕ → State → State
without_policy k n s = with_tables (tables.without_policy k n (tables_of s)) s

-- The state after a change of its policies, not yet settled.
abbrev pub ruled : PolicyChange → State → State
ruled c s = with_tables (after_policy_change c (tables_of s)) s

-- What a change needs of a state.
abbrev pub CanRule : PolicyChange → State → Type 0
CanRule c s = CanChangePolicies c (tables_of s)
