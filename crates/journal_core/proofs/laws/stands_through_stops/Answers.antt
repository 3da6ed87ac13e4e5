use Rattle.journal_core.proofs.SlotLaws.{slot_shut, slot_torn, slot_added, slot_stopped, end-push, bytes-push}
use Rattle.journal_core.proofs.laws.stands_through_stops.Goals as goal

pub returns-clause-shut : goal.returns-clause-shut
returns-clause-shut c = slot_shut

pub returns-clause-torn : goal.returns-clause-torn
returns-clause-torn c = slot_torn

pub returns-clause-added : goal.returns-clause-added
returns-clause-added c = slot_added

pub returns-clause-stopped : goal.returns-clause-stopped
returns-clause-stopped c = slot_stopped

pub returns-clause-gate : goal.returns-clause-gate
returns-clause-gate c = end-push

pub returns-clause-bytes : goal.returns-clause-bytes
returns-clause-bytes c = bytes-push
