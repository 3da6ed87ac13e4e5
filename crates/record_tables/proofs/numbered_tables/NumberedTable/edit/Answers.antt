use Rattle.std.proofs.Common.{◌∙◌}
use Rattle.ctrl_model.proofs.NumberedLaws.{Between-edit_at}
use Rattle.record_tables.proofs.EntryLaws.{edit_at-value}
use Rattle.record_tables.proofs.RecordLaws.{within_end}
use Rattle.record_tables.proofs.numbered_tables.NumberedTable.edit.Goals as goal

pub change_record-requires-clause-ordered : goal.change_record-requires-clause-ordered
change_record-requires-clause-ordered g c = within_end c.self.inside.next c.self.inside.records.entries c.self.invariant.last c.self.invariant.ordered

pub invariant_of-self : goal.invariant_of-self
invariant_of-self g c =
    let made = c.change_record.ensures in
    let order = c.self.invariant in
    record {
      first = order.first;
      last = order.last;
      ordered = rw made.rows (Between-edit_at c.self.inside.next c.self.inside.records.entries 1 c.args.number (λ _. made.after) order.ordered);
    }

pub returns-clause-changed : goal.returns-clause-changed
returns-clause-changed g c = rw (← c.self.view_is) c.change_record.ensures

pub returns-clause-by : goal.returns-clause-by
returns-clause-by g c = λ f does.
    let made = c.change_record.ensures in
    let rows = c.self.inside.records.entries in
    let value = does made.before made.after made.changed in
    rw (← c.self.view_is)
    (λ j. record {
      rows = (made.rows ∙ edit_at-value c.self.inside.next rows 1 c.args.number f made.before made.after c.self.invariant.ordered made.stood value) j;
      next = c.self.inside.next;
    })
