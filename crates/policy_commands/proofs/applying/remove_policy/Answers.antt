use Rattle.policy_commands.proofs.Arounds.{around}
use Rattle.policy_commands.proofs.PolicyApplyLaws.{ruled_without}
use Rattle.policy_commands.proofs.applying.remove_policy.Goals as goal

pub returns : goal.returns
returns c =
    rw (c.remove.ensures)
    (ruled_without c.args.kind c.args.number (around c.args.entities.now c.args.policies.now c.requires.leads.rest) c.let_policy_go.new.entities c.requires.kind
    c.requires.leads.before c.requires.held c.in_ok-let_policy_go.ensures)
