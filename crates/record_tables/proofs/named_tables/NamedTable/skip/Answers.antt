use Rattle.std.proofs.Common.{arith}
use Rattle.ctrl_model.proofs.NumberedLaws.{Between-more}
use Rattle.record_tables.specs.Entries.{numbered_records}
use Rattle.record_tables.proofs.named_tables.NamedTable.skip.Goals as goal

pub invariant_of-self : goal.invariant_of-self
invariant_of-self g c =
    let later = rw (← c.self.view_is) at c.requires in
    let order = c.self.invariant.order in
    let first = order.first in
    record {
      order = record {
        first = omega arith;
        last = omega arith;
        ordered = Between-more c.self.inside.next (numbered_records c.self.inside.entries.entries) 1 1 c.args.next (omega arith) later order.ordered;
      };
      named = c.self.invariant.named;
    }
