-- What a change makes of the intercepts: its own change of them, and the one of a service that goes, goes (docs/RULES.md, "Intercepts").
use Rattle.std.specs.Prelude.{ℕ, None, Some, option_map}
use Rattle.std.specs.declared.option.Option.{Option}
use Rattle.ctrl_model.specs.declared.kinds.Kind.TheVariants as kind
use Rattle.entity_store.specs.declared.changes.EntityChange.{EntityChange}
use Rattle.entity_store.specs.declared.changes.EntityChange.TheVariants as entity
use Rattle.intercepts.specs.declared.changes.InterceptChange.{InterceptChange}
use Rattle.intercepts.specs.declared.changes.InterceptChange.TheVariants as claim
use Rattle.core_stores.specs.declared.changes.Change.{Change}
use Rattle.core_stores.specs.declared.changes.Change.TheVariants as change

-- The service that a change removes, if it removes one.
abbrev pub service_gone : Option EntityChange → Option ℕ
service_gone (Some (entity.Remove kind.Service n name)) = Some n
service_gone _ = None

-- The change of the intercepts that a change of the entities brings along: the intercept of a service that goes, goes.
abbrev pub claim_gone : Option EntityChange → Option InterceptChange
claim_gone c = option_map (λ n. claim.Remove (record { 0 = n })) (service_gone c)

-- The change of the intercepts: its own, or the one that a change of the entities brings along.
abbrev pub claim_part : Change → Option InterceptChange
claim_part (change.Intercept c) = Some c
claim_part (change.Entity c) = claim_gone (Some c)
claim_part _ = None
