use Rattle.std.proofs.lemmas.Result.{on_ok_weaker}
use Rattle.core_stores.specs.StoredState.{state_of}
use Rattle.ctrl_core.proofs.ApplyLaws.{carried_rules}
use Rattle.ctrl_core.proofs.applying.apply_policy.Goals as goal

pub apply_policy_change-requires-clause-leads : goal.apply_policy_change-requires-clause-leads
apply_policy_change-requires-clause-leads c = record { rest = state_of c.args.stores.now; before = c.requires.before; after = c.requires.valid }

pub returns-clause-carried : goal.returns-clause-carried
returns-clause-carried c = on_ok_weaker c.apply_policy_change.result (λ rules. carried_rules c.args.change c.args.stores.now _ _ rules) c.apply_policy_change.ensures
