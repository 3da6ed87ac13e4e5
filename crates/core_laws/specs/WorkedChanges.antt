-- A small state for worked examples.
use Rattle.std.specs.Prelude.{codes, [], ◌∷◌}
use Rattle.ctrl_model.specs.declared.kinds.Relation.TheVariants.{Dial}
use Rattle.ctrl_model.specs.declared.kinds.Semantic.TheVariants.{AnyOf}
use Rattle.ctrl_model.specs.State.{State, start}
use Rattle.ctrl_model.specs.WorkedStates.{only}
use Rattle.policy_store.specs.declared.records.Policy.{Policy}

-- A policy by which ann may dial web.
abbrev pub ann_dials : Policy
ann_dials = record { name = codes "web-users"; relation = Dial; semantic = AnyOf; left = only (codes "ann"); right = only (codes "web") }

-- The state of it alone.
abbrev pub with_dial : State
with_dial = record start { service_policies = record { rows = (1, ann_dials) ∷ []; next = 2 } }
