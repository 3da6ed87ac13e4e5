use Rattle.folder_findings.proofs.WaysBack.{leads_back}
use Rattle.folder_findings.proofs.laws.a_byte_leads_back.Goals as goal

pub returns : goal.returns
returns c = leads_back
