use Rattle.ship_core.proofs.FollowLaws.{next_leads, whole_leads}
use Rattle.ship_core.proofs.laws.shipped_leads_to_the_rows.Goals as goal

pub returns : goal.returns
returns c = record { next = next_leads; whole = whole_leads }
