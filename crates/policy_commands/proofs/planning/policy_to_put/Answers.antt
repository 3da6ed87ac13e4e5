use Rattle.policy_commands.proofs.RefusedPolicies.{put_placed}
use Rattle.policy_commands.proofs.planning.policy_to_put.Goals as goal

pub refusal_for-requires-clause-place : goal.refusal_for-requires-clause-place
refusal_for-requires-clause-place c =
    put_placed c.args.kind c.args.policy.now c.args.fresh c.args.known.now.policies.now c.args.known.now.entities.now c.in-Err.fault c.in-Err.ensures.fault
