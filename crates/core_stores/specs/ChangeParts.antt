-- What a change is to each family: its own change, or none. Only private functions and proofs of this crate cite this file.
use Rattle.std.specs.Prelude.{ℕ, ◌==◌, Bool, true, false, List, None, Some}
use Rattle.std.specs.declared.option.Option.{Option}
use Rattle.ctrl_model.specs.declared.kinds.Kind.{Kind}
use Rattle.ctrl_model.specs.declared.kinds.Kind.TheVariants as kind
use Rattle.entity_store.specs.declared.changes.EntityChange.{EntityChange}
use Rattle.entity_store.specs.declared.changes.EntityChange.TheVariants as entity
use Rattle.policy_store.specs.declared.changes.PolicyChange.{PolicyChange}
use Rattle.policy_store.specs.declared.changes.PolicyChange.TheVariants as policy
use Rattle.fabric_graph.specs.declared.changes.LinkChange.{LinkChange}
use Rattle.fabric_graph.specs.declared.changes.LinkChange.TheVariants as link
use Rattle.terminators.specs.declared.changes.TermChange.{TermChange}
use Rattle.terminators.specs.declared.changes.TermChange.TheVariants as term
use Rattle.circuits.specs.declared.changes.CircuitChange.{CircuitChange}
use Rattle.circuits.specs.declared.changes.CircuitChange.TheVariants as circuit
use Rattle.intercepts.specs.declared.changes.InterceptChange.{InterceptChange}
use Rattle.row_codec.specs.RowKeys.{kind_number}
use Rattle.core_stores.specs.declared.changes.Change.{Change}
use Rattle.core_stores.specs.declared.changes.Change.TheVariants as change

-- The change of the entities.
abbrev pub entity_part : Change → Option EntityChange
entity_part (change.Entity c) = Some c
entity_part _ = None

-- The change of the policies.
abbrev pub policy_part : Change → Option PolicyChange
policy_part (change.Policy c) = Some c
policy_part _ = None

-- The change of the links.
abbrev pub link_part : Change → Option LinkChange
link_part (change.Link c) = Some c
link_part _ = None

-- The change of the terminators.
abbrev pub term_part : Change → Option TermChange
term_part (change.Terminator c) = Some c
term_part _ = None

-- The change of the circuits.
abbrev pub circuit_part : Change → Option CircuitChange
circuit_part (change.Circuit c) = Some c
circuit_part _ = None

-- The change of the intercepts.
abbrev pub intercept_part : Change → Option InterceptChange
intercept_part (change.Intercept c) = Some c
intercept_part _ = None

-- Whether a change adds an entity of a kind.
abbrev pub adds_entity : Option EntityChange → Kind → Bool
adds_entity (Some (entity.Add added name attributes)) k = kind_number added == kind_number k
adds_entity (Some (entity.AddRouter name attributes cost through)) k = kind_number kind.Router == kind_number k
adds_entity _ k = false

-- Whether a change adds a policy of a kind.
abbrev pub adds_policy : Option PolicyChange → Kind → Bool
adds_policy (Some (policy.Add added p)) k = kind_number added == kind_number k
adds_policy _ k = false

-- Whether a change adds a link.
abbrev pub adds_link : Option LinkChange → Bool
adds_link (Some (link.Add l)) = true
adds_link _ = false

-- Whether a change adds a terminator.
abbrev pub adds_term : Option TermChange → Bool
adds_term (Some (term.Add e)) = true
adds_term _ = false

-- Whether a change adds a circuit.
abbrev pub adds_circuit : Option CircuitChange → Bool
adds_circuit (Some (circuit.Add c)) = true
adds_circuit _ = false

-- Whether a change adds a record of a kind.
abbrev pub adds : Change → Kind → Bool
adds c kind.Identity = adds_entity (entity_part c) kind.Identity
adds c kind.Service = adds_entity (entity_part c) kind.Service
adds c kind.Router = adds_entity (entity_part c) kind.Router
adds c kind.Link = adds_link (link_part c)
adds c kind.ServicePolicy = adds_policy (policy_part c) kind.ServicePolicy
adds c kind.EdgeRouterPolicy = adds_policy (policy_part c) kind.EdgeRouterPolicy
adds c kind.ServiceEdgeRouterPolicy = adds_policy (policy_part c) kind.ServiceEdgeRouterPolicy
adds c kind.Terminator = adds_term (term_part c)
adds c kind.Circuit = adds_circuit (circuit_part c)
adds c kind.Attribute = false

-- The least router cost after a change of the links.
abbrev pub least_after : Option LinkChange → ℕ → ℕ
least_after (Some (link.SetLeast cost)) least = cost
least_after _ least = least

-- The `@` name that a change takes out of the sides of policies, and the kind of its entity.
abbrev pub forgotten_name : Option EntityChange → Option (Kind × List ℕ)
forgotten_name (Some (entity.Remove k n name)) = Some (k, name)
forgotten_name _ = None
