use Rattle.std.proofs.Common.{sym}
use Rattle.ctrl_model.specs.State.{start}
use Rattle.policy_commands.proofs.Arounds.{around}
use Rattle.policy_commands.proofs.PolicyApplyLaws.{are_held}
use Rattle.policy_commands.proofs.applying.let_policy_go.Goals as goal

pub let_go-requires : goal.let_go-requires
let_go-requires c =
    rw (c.in_ok-gone.ensures)
    (are_held c.args.kind c.args.number c.in-Some.policy.now (around c.args.entities.now c.args.policies.now start) c.requires.kind (sym c.in-Some.ensures) c.requires.held)

pub returns : goal.returns
returns c = record {
  policy = c.in-Some.policy.now;
  stands = sym c.in-Some.ensures;
  uses_go = rw c.in_ok-gone.ensures at c.let_go.ensures;
}
