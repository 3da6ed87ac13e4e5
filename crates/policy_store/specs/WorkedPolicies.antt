-- Small tables for worked examples.
use Rattle.std.specs.Prelude.{codes}
use Rattle.ctrl_model.specs.declared.kinds.Kind.TheVariants as kind
use Rattle.ctrl_model.specs.declared.kinds.Relation.TheVariants.{Dial, Bind}
use Rattle.ctrl_model.specs.declared.kinds.Semantic.TheVariants.{AnyOf, AllOf}
use Rattle.ctrl_model.specs.State.{Policy}
use Rattle.ctrl_model.specs.WorkedStates.{everyone, only}
use Rattle.policy_store.specs.PolicyTables.{PolicyTables, no_policies, with_policy}

-- A policy by which ann may dial web.
abbrev pub dial_web : Policy
dial_web = record { name = codes "web-users"; relation = Dial; semantic = AnyOf; left = only (codes "ann"); right = only (codes "web") }

-- A policy of the same name by which everyone may bind web.
abbrev pub bind_web : Policy
bind_web = record { name = codes "web-users"; relation = Bind; semantic = AllOf; left = everyone; right = only (codes "web") }

-- The first policy alone.
abbrev pub one_policy : PolicyTables
one_policy = with_policy kind.ServicePolicy dial_web no_policies
