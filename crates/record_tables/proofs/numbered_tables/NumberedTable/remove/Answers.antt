use Rattle.ctrl_model.proofs.NumberedLaws.{Between-without}
use Rattle.record_tables.proofs.RecordLaws.{within_end}
use Rattle.record_tables.proofs.numbered_tables.NumberedTable.remove.Goals as goal

pub remove_record-requires : goal.remove_record-requires
remove_record-requires g c = within_end c.self.inside.next c.self.inside.records.entries c.self.invariant.last c.self.invariant.ordered

pub invariant_of-self : goal.invariant_of-self
invariant_of-self g c =
    let order = c.self.invariant in
    record { first = order.first; last = order.last; ordered = rw c.remove_record.ensures (Between-without c.self.inside.next c.self.inside.records.entries 1 c.args.number order.ordered) }
