use Rattle.grant_moves.proofs.PolicyMoves.{policy_leads}
use Rattle.grant_moves.proofs.laws.policy_changes_lead.Goals as goal

pub returns : goal.returns
returns c = policy_leads
