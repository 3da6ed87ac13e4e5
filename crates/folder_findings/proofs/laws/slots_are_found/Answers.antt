use Rattle.folder_findings.proofs.SlotSpans.{slot_is_found}
use Rattle.folder_findings.proofs.laws.slots_are_found.Goals as goal

pub returns : goal.returns
returns c = slot_is_found
