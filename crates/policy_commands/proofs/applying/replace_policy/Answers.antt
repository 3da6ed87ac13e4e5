use Rattle.policy_commands.proofs.PolicyApplyLaws.{can_put_other}
use Rattle.policy_commands.proofs.applying.replace_policy.Goals as goal

pub put-requires-clause-can : goal.put-requires-clause-can
put-requires-clause-can c = can_put_other c.args.kind c.args.number c.args.policy.name c.args.policies.now c.requires.named

pub returns : goal.returns
returns c = rw (c.in_ok-put.ensures.ok.1) c.in_ok-change_uses.ensures
