use Rattle.std.proofs.Common.{◌+◌, arith, ◌∙◌}
use Rattle.ctrl_model.proofs.NumberedLaws.{Between-with_last}
use Rattle.record_tables.proofs.RecordLaws.{insert_entry-last}
use Rattle.record_tables.proofs.numbered_tables.add_record.Goals as goal

pub returns-clause-ok : goal.returns-clause-ok
returns-clause-ok g c =
    let last = c.in_ok-insert.ensures.entries ∙ insert_entry-last c.args.next.now c.args.records.now.entries 1 c.args.row c.requires.order.ordered in
    λ j. record { rows = last j; next = c.args.next.now + 1 }

pub returns-clause-order : goal.returns-clause-order
returns-clause-order g c =
    let last = c.in_ok-insert.ensures.entries ∙ insert_entry-last c.args.next.now c.args.records.now.entries 1 c.args.row c.requires.order.ordered in
    let room = c.requires.room in
    let first = c.requires.order.first in
    record { first = omega arith; last = omega arith; ordered = rw last (Between-with_last c.args.next.now c.args.records.now.entries 1 c.args.row first c.requires.order.ordered) }
