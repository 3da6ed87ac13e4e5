use Rattle.std.proofs.Common.{◌∙◌}
use Rattle.record_tables.specs.Entries.{numbered_records}
use Rattle.ctrl_model.proofs.NumberedLaws.{Between-edit_at}
use Rattle.record_tables.proofs.EntryLaws.{in_order, edit_at-value}
use Rattle.record_tables.proofs.named_tables.NamedTable.edit.Goals as goal

pub change_row-requires-clause-ordered : goal.change_row-requires-clause-ordered
change_row-requires-clause-ordered g c = in_order c.self.inside.entries.entries c.self.inside.next c.self.invariant.order.last c.self.invariant.order.ordered

pub invariant_of-self : goal.invariant_of-self
invariant_of-self g c =
    let made = c.change_row.ensures.rows in
    let order = c.self.invariant.order in
    record {
      order = record {
        first = order.first;
        last = order.last;
        ordered = rw made.rows (Between-edit_at c.self.inside.next (numbered_records c.self.inside.entries.entries) 1 c.args.number (λ _. made.after) order.ordered);
      };
      named = c.change_row.ensures.named;
    }

pub returns-clause-changed : goal.returns-clause-changed
returns-clause-changed g c = rw (← c.self.view_is) c.change_row.ensures.rows

pub returns-clause-by : goal.returns-clause-by
returns-clause-by g c = λ f does.
    let made = c.change_row.ensures.rows in
    let rows = numbered_records c.self.inside.entries.entries in
    let value = does made.before made.after made.changed in
    rw (← c.self.view_is)
    (λ j. record {
      rows = (made.rows ∙ edit_at-value c.self.inside.next rows 1 c.args.number f made.before made.after c.self.invariant.order.ordered made.stood value) j;
      next = c.self.inside.next;
    })
