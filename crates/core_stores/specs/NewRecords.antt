-- The records that one change adds, and those that rows say (docs/PROMISES.md, "The core").
use Rattle.std.specs.Prelude.{None, Some, option_map}
use Rattle.std.specs.declared.option.Option.{Option}
use Rattle.ctrl_model.specs.declared.kinds.Kind.{Kind}
use Rattle.ctrl_model.specs.declared.kinds.Kind.TheVariants as kind
use Rattle.ctrl_model.specs.Tables.{Record}
use Rattle.entity_store.specs.declared.changes.EntityChange.TheVariants as entity
use Rattle.policy_store.specs.declared.changes.PolicyChange.TheVariants as policy
use Rattle.fabric_graph.specs.declared.changes.LinkChange.TheVariants as link
use Rattle.terminators.specs.declared.changes.TermChange.TheVariants as term
use Rattle.circuits.specs.declared.changes.CircuitChange.TheVariants as circuit
use Rattle.row_codec.specs.declared.rows.Row.{Row}
use Rattle.state_building.specs.RowForms.{by_row}
use Rattle.core_stores.specs.declared.changes.Change.{Change}
use Rattle.core_stores.specs.declared.changes.Change.TheVariants as change
use Rattle.core_stores.specs.declared.new_records.NewRecord.{NewRecord}

-- The change that adds a record of a kind. A router takes two changes, and an attribute is no record.
abbrev pub added : (k : Kind) → Record k → Option Change
added kind.Identity e = Some (change.Entity (entity.Add kind.Identity e.name e.attributes))
added kind.Service e = Some (change.Entity (entity.Add kind.Service e.name e.attributes))
added kind.Link l = Some (change.Link (link.Add l))
added kind.ServicePolicy p = Some (change.Policy (policy.Add kind.ServicePolicy p))
added kind.EdgeRouterPolicy p = Some (change.Policy (policy.Add kind.EdgeRouterPolicy p))
added kind.ServiceEdgeRouterPolicy p = Some (change.Policy (policy.Add kind.ServiceEdgeRouterPolicy p))
added kind.Terminator e = Some (change.Terminator (term.Add e))
added kind.Circuit c = Some (change.Circuit (circuit.Add c))
added kind.Router r = None
added kind.Attribute u = None

-- The record that a row says, if one change adds it.
abbrev pub new_in : Row → Option NewRecord
new_in x = by_row (record {
  next = λ k n. None;
  setting = λ cost. None;
  one = λ k n r. option_map (λ c. record { kind = k; number = n; change = c }) (added k r);
  count = λ r a b c. None;
  intercept = λ n i. None;
  serial = λ n. None;
}) x
