use Rattle.std.proofs.Common.{sym, ◌∙◌}
use Rattle.circuit_settling.specs.declared.looking.Look.TheVariants.{Paths}
use Rattle.ctrl_core.proofs.JudgedChanges.{is_none, settled_alone}
use Rattle.ctrl_core.proofs.SettledChanges.{settles}
use Rattle.ctrl_core.proofs.StepLaws.{stay_granted}
use Rattle.ctrl_core.proofs.settling.settled_by.Goals as goal

pub with_circuits-requires-clause-falls : goal.with_circuits-requires-clause-falls
with_circuits-requires-clause-falls c =
    settles c.args.stores.now c.requires.can.before c.args.change.now c.requires.can.can c.requires.stands c.in_ok-fallen.fallen c.in_ok-fallen.ensures

pub returns-then-stays_granted : goal.returns-then-stays_granted
returns-then-stays_granted c =
    let fallen = c.in_ok-fallen.fallen in
    let falls = settles c.args.stores.now c.requires.can.before c.args.change.now c.requires.can.can c.requires.stands fallen c.in_ok-fallen.ensures in
    let out = c.without_circuits.ensures in
    settled_alone c.args.change.now c.args.stores.now fallen c.requires.can falls Paths c.requires.stands
    (stay_granted c.args.change.now c.args.stores.now c.requires.can fallen.circuits c.args.granted c.args.steps.now c.requires.granted c.requires.counts (sym c.stays_granted.ensures ∙ c.if-stays_granted.true))
    (is_none _ (c.is_empty.ensures.0 c.if-is_empty.true)) c.without_circuits.result out.links out.terminators out.going out.ended out.moves
