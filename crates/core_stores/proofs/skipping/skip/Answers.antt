use Rattle.std.proofs.Common.{◌≤◌, subst}
use Rattle.ctrl_model.specs.Tables.{table}
use Rattle.core_stores.specs.StoredState.{state_of}
use Rattle.core_stores.proofs.LaterNumbers.{entities_later, policies_later}
use Rattle.core_stores.proofs.skipping.skip.Goals as goal

pub skip-requires-clause-later : goal.skip-requires-clause-later
skip-requires-clause-later c = entities_later c.args.next c.args.stores.now c.args.kind c.in-Identity.is c.requires.later

pub skip-requires-in-ServicePolicy : goal.skip-requires-in-ServicePolicy
skip-requires-in-ServicePolicy c = record { later = policies_later c.args.next c.args.stores.now c.args.kind c.in-ServicePolicy.is c.requires.later }

pub skip-requires-in-Link : goal.skip-requires-in-Link
skip-requires-in-Link c = subst (λ k. (table k (state_of c.args.stores.now)).next ≤ c.args.next) c.in-Link.is c.requires.later

pub skip-requires-in-Terminator : goal.skip-requires-in-Terminator
skip-requires-in-Terminator c = subst (λ k. (table k (state_of c.args.stores.now)).next ≤ c.args.next) c.in-Terminator.is c.requires.later

pub skip-requires-in-Circuit : goal.skip-requires-in-Circuit
skip-requires-in-Circuit c = subst (λ k. (table k (state_of c.args.stores.now)).next ≤ c.args.next) c.in-Circuit.is c.requires.later
