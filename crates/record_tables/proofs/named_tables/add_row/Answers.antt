use Rattle.std.proofs.Common.{◌+◌, arith}
use Rattle.ctrl_model.proofs.NumberedLaws.{Between-with_last}
use Rattle.record_tables.specs.Entries.{numbered_records}
use Rattle.record_tables.proofs.named_tables.add_row.Goals as goal

pub returns-clause-ok : goal.returns-clause-ok
returns-clause-ok g c = λ j. record { rows = c.in_ok-insert_row.ensures.ok j; next = c.args.next.now + 1 }

pub returns-clause-kept : goal.returns-clause-kept
returns-clause-kept g c =
    let order = c.requires.kept.order in
    let room = c.requires.room in
    let first = order.first in
    record {
      order = record {
        first = omega arith;
        last = omega arith;
        ordered = rw c.in_ok-insert_row.ensures.ok (Between-with_last c.args.next.now (numbered_records c.args.entries.now.entries) 1 c.args.row first order.ordered);
      };
      named = c.insert_row.ensures.named;
    }
