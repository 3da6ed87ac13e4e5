use Rattle.row_store.proofs.WorkedLaws.{cut_damaged, gate_missing, deletion_damaged}
use Rattle.row_store.proofs.worked.worked_damage.Goals as goal

pub returns-clause-cut_record : goal.returns-clause-cut_record
returns-clause-cut_record c = cut_damaged

pub returns-clause-no_gate : goal.returns-clause-no_gate
returns-clause-no_gate c = gate_missing

pub returns-clause-deletes_absent : goal.returns-clause-deletes_absent
returns-clause-deletes_absent c = deletion_damaged
