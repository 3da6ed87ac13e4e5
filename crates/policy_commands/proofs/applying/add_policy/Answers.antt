use Rattle.policy_commands.proofs.Arounds.{around}
use Rattle.policy_commands.proofs.PolicyApplyLaws.{can_put_fresh, room_to_put, ruled_with}
use Rattle.policy_commands.proofs.applying.add_policy.Goals as goal

pub hold_policy-requires : goal.hold_policy-requires
hold_policy-requires c =
    (room_to_put c.args.kind c.args.policy (around c.args.entities.now c.args.policies.now c.requires.leads.rest) c.requires.kind c.requires.held c.requires.leads.after)

pub put-requires-clause-can : goal.put-requires-clause-can
put-requires-clause-can c =
    can_put_fresh c.args.kind c.args.policy (around c.args.entities.now c.args.policies.now c.requires.leads.rest) c.requires.kind c.requires.leads.after

pub returns : goal.returns
returns c =
    rw (c.in_ok-put.ensures.ok.1)
    (ruled_with c.args.kind c.args.policy (around c.args.entities.now c.args.policies.now c.requires.leads.rest) c.hold_policy.new.entities c.requires.kind c.requires.held
    c.in_ok-hold_policy.ensures)
