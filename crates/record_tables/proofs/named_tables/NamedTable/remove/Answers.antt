use Rattle.ctrl_model.proofs.NumberedLaws.{Between-without}
use Rattle.record_tables.specs.Entries.{numbered_records}
use Rattle.record_tables.proofs.EntryLaws.{in_order}
use Rattle.record_tables.proofs.named_tables.NamedTable.remove.Goals as goal

pub remove_row-requires-clause-ordered : goal.remove_row-requires-clause-ordered
remove_row-requires-clause-ordered g c = in_order c.self.inside.entries.entries c.self.inside.next c.self.invariant.order.last c.self.invariant.order.ordered

pub invariant_of-self : goal.invariant_of-self
invariant_of-self g c =
    let order = c.self.invariant.order in
    record {
      order = record {
        first = order.first;
        last = order.last;
        ordered = rw c.remove_row.ensures.rows (Between-without c.self.inside.next (numbered_records c.self.inside.entries.entries) 1 c.args.number order.ordered);
      };
      named = c.remove_row.ensures.named;
    }
