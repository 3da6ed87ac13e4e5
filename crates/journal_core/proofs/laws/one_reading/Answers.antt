use Rattle.journal_core.proofs.SlotLaws.{one_header, one_slot, one_thing}
use Rattle.journal_core.proofs.laws.one_reading.Goals as goal

pub returns-clause-slot : goal.returns-clause-slot
returns-clause-slot c = one_slot

pub returns-clause-header : goal.returns-clause-header
returns-clause-header c = one_header

pub returns-clause-place : goal.returns-clause-place
returns-clause-place c = one_thing
