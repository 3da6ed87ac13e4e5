use Rattle.core_stores.specs.StoredState.{state_of}
use Rattle.ctrl_core.proofs.NetworkPlans.{shown_planned, changed_planned}
use Rattle.ctrl_core.proofs.commands.drafted.Goals as goal

pub returns-in_default : goal.returns-in_default
returns-in_default c = λ answered planned.
    shown_planned (record { reply = c.args.reply; change = c.args.change }) c.shown.result answered (state_of c.args.stores.now) c.in_default.is c.shown.ensures planned

pub returns : goal.returns
returns c = λ answered planned.
    changed_planned (record { reply = c.args.reply; change = c.args.change }) c.in-Some.change c.in_ok-steps.steps answered (state_of c.args.stores.now) c.in-Some.is c.in_ok-steps.ensures planned
