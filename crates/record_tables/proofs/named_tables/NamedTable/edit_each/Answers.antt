use Rattle.record_tables.proofs.named_tables.NamedTable.edit_each.Goals as goal

pub invariant_of-self : goal.invariant_of-self
invariant_of-self g c =
    let order = c.self.invariant.order in
    record {
      order = record { first = order.first; last = order.last; ordered = c.change_each.ensures.order c.self.inside.next order.ordered };
      named = c.change_each.ensures.named;
    }
