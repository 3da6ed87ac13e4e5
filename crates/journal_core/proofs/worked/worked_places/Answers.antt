use Rattle.std.proofs.Common.{[], ◌∷◌, take, drop, refl, arith}
use Rattle.ctrl_model.specs.declared.formats.Format.TheVariants.{One}
use Rattle.journal_core.specs.WorkedSlots.{slot_of_ann}
use Rattle.journal_core.proofs.ReadLaws.{damaged_record, damaged_past_end}
use Rattle.journal_core.proofs.worked.worked_places.Goals as goal

pub returns-clause-closed : goal.returns-clause-closed
returns-clause-closed c = record { front = take 41 (slot_of_ann One); gate = 0; more = []; split = refl; place = refl; closed = λ e. absurd (omega (arith, e)) }

pub returns-clause-closed_by_another_byte : goal.returns-clause-closed_by_another_byte
returns-clause-closed_by_another_byte c = record { front = 5 ∷ 6 ∷ []; gate = 2; more = 1 ∷ []; split = refl; place = refl; closed = λ e. absurd (omega (arith, e)) }

pub returns-clause-record : goal.returns-clause-record
returns-clause-record c = record { front = take 8 (slot_of_ann One); more = 0 ∷ []; split = refl; place = refl; short = omega arith }

pub returns-clause-cut_record : goal.returns-clause-cut_record
returns-clause-cut_record c = damaged_record 8 28 (take 20 (slot_of_ann One)) (omega arith) (drop 9 (take 20 (slot_of_ann One)), refl) (drop 13 (take 20 (slot_of_ann One)), refl) (omega arith)

pub returns-clause-whole_record : goal.returns-clause-whole_record
returns-clause-whole_record c = record { front = take 8 (slot_of_ann One); more = []; split = refl; place = refl; short = omega arith }

pub returns-clause-missing_gate : goal.returns-clause-missing_gate
returns-clause-missing_gate c = damaged_past_end 41 (take 41 (slot_of_ann One)) (omega arith)
