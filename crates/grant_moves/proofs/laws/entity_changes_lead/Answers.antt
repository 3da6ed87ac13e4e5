use Rattle.grant_moves.proofs.EntityMoves.{entity_leads}
use Rattle.grant_moves.proofs.laws.entity_changes_lead.Goals as goal

pub returns : goal.returns
returns c = entity_leads
