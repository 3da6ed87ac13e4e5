use Rattle.std.proofs.Common.{subst}
use Rattle.ctrl_model.specs.Settling.{settle}
use Rattle.ctrl_model.specs.ValidState.{ValidState}
use Rattle.core_stores.specs.StoredState.{state_of}
use Rattle.core_stores.specs.declared.changes.Change.{Change}
use Rattle.ctrl_core.specs.Changes.{after_change}
use Rattle.ctrl_core.proofs.applying.apply_change.Goals as goal

pub apply_entity-requires-clause-valid : goal.apply_entity-requires-clause-valid
apply_entity-requires-clause-valid c = subst (λ (d : Change). ValidState (settle (after_change d (state_of c.args.stores.now)))) c.in-Entity.is c.requires.valid

pub apply_policy-requires-clause-valid : goal.apply_policy-requires-clause-valid
apply_policy-requires-clause-valid c = subst (λ (d : Change). ValidState (settle (after_change d (state_of c.args.stores.now)))) c.in-Policy.is c.requires.valid
