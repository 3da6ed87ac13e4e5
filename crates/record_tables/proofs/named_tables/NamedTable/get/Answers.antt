use Rattle.record_tables.proofs.EntryLaws.{in_order}
use Rattle.record_tables.proofs.named_tables.NamedTable.get.Goals as goal

pub record_at-requires : goal.record_at-requires
record_at-requires g c = in_order c.self.inside.entries.entries c.self.inside.next c.self.invariant.order.last c.self.invariant.order.ordered
