use Rattle.std.proofs.Common.{sym, ◌∙◌, subst}
use Rattle.grant_denorm.specs.TakenSteps.{HaveRoom, Taken}
use Rattle.policy_store.specs.StepsOfRelations.{steps_of}
use Rattle.circuit_settling.specs.EmptiedPairs.{counts_after}
use Rattle.core_stores.specs.StoredState.{state_of}
use Rattle.ctrl_core.specs.Changes.{after_change}
use Rattle.ctrl_core.proofs.JudgedChanges.{settled_alone}
use Rattle.ctrl_core.proofs.StepLaws.{as_pairs, grants_after_are, steps_fit}
use Rattle.ctrl_core.proofs.settling.with_circuits.Goals as goal

pub grants_after-requires : goal.grants_after-requires
grants_after-requires c r =
    let steps = c.args.steps.now in
    subst (λ cs. HaveRoom cs (steps_of r steps)) (sym (as_pairs c.args.stores.now.grants r)) (steps_fit c.args.stores.now _ steps c.requires.kept c.requires.can.valid c.requires.counts r)

pub look_by-requires-clause-counts : goal.look_by-requires-clause-counts
look_by-requires-clause-counts c =
    grants_after_are c.args.stores.now (after_change c.args.change.now (state_of c.args.stores.now)) c.args.steps.now c.in_ok-grants.grants c.requires.kept c.requires.counts
    (λ r. subst (λ cs. Taken cs (counts_after r c.in_ok-grants.grants) (steps_of r c.args.steps.now)) (as_pairs c.args.stores.now.grants r) (c.in_ok-grants.ensures r))

pub judged_beside-requires-clause-counts : goal.judged_beside-requires-clause-counts
judged_beside-requires-clause-counts c =
    grants_after_are c.args.stores.now (after_change c.args.change.now (state_of c.args.stores.now)) c.args.steps.now c.in_ok-grants.grants c.requires.kept c.requires.counts
    (λ r. subst (λ cs. Taken cs (counts_after r c.in_ok-grants.grants) (steps_of r c.args.steps.now)) (as_pairs c.args.stores.now.grants r) (c.in_ok-grants.ensures r))

pub returns-then-goes_none : goal.returns-then-goes_none
returns-then-goes_none c =
    let out = c.without_circuits.ensures in
    settled_alone c.args.change.now c.args.stores.now c.args.fallen c.requires.can c.requires.falls c.in_ok-look.look c.requires.stands c.in_ok-look.ensures
    (sym c.goes_none.ensures ∙ c.if-goes_none.true) c.without_circuits.result out.links out.terminators out.going out.ended out.moves

pub returns : goal.returns
returns c = record { links_are = c.requires.falls.links_are; terms_are = c.requires.falls.terms_are; judged = c.in_ok-going.ensures }
