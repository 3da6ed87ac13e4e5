use Rattle.journal_core.proofs.SlotLaws.{front_next, front_end, slot_closed}
use Rattle.journal_core.proofs.laws.reading_goes_on.Goals as goal

pub returns-clause-next : goal.returns-clause-next
returns-clause-next c = front_next

pub returns-clause-end : goal.returns-clause-end
returns-clause-end c = front_end

pub returns-clause-gate : goal.returns-clause-gate
returns-clause-gate c = slot_closed
