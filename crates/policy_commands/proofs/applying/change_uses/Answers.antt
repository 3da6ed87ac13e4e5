use Rattle.std.proofs.lemmas.Result.{IfOk-weaker}
use Rattle.policy_commands.proofs.Arounds.{around}
use Rattle.policy_commands.proofs.PolicyApplyLaws.{present_before, room_to_replace, ruled_replaced}
use Rattle.policy_commands.proofs.applying.change_uses.Goals as goal

pub let_policy_go-requires-clause-there : goal.let_policy_go-requires-clause-there
let_policy_go-requires-clause-there c =
    present_before c.args.kind c.args.number c.args.policy.now (around c.args.entities.now c.args.policies.now c.requires.leads.rest) c.requires.kind c.requires.named
    c.requires.leads.after

pub hold_policy-requires : goal.hold_policy-requires
hold_policy-requires c =
    (room_to_replace c.args.kind c.args.number c.args.policy.now (around c.args.entities.now c.args.policies.now c.requires.leads.rest) c.let_policy_go.new.entities c.requires.kind
    c.requires.leads.after c.requires.held c.in_ok-let_policy_go.ensures)

pub returns : goal.returns
returns c = IfOk-weaker c.hold_policy.result _ _ (λ x holds.
    ruled_replaced c.args.kind c.args.number c.args.policy.now (around c.args.entities.now c.args.policies.now c.requires.leads.rest) c.let_policy_go.new.entities c.hold_policy.new.entities
    c.requires.kind c.requires.named c.requires.leads.after c.requires.held c.in_ok-let_policy_go.ensures holds) c.hold_policy.ensures
