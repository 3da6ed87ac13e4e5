use Rattle.grant_moves.proofs.LeadingCounts.{unchanged_leads}
use Rattle.grant_moves.proofs.laws.unchanged_counts_lead.Goals as goal

pub returns : goal.returns
returns c = unchanged_leads
