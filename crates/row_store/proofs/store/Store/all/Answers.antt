use Rattle.std.proofs.Common.{ap, ◌∙◌}
use Rattle.std.proofs.lemmas.Result.{IfOk-weaker}
use Rattle.slot_reading.specs.BatchRows.{puts}
use Rattle.row_store.specs.StoredRows.{Stored}
use Rattle.row_store.specs.declared.writing.Writing.TheVariants.{Same}
use Rattle.row_store.proofs.NarrowLaws.{as_each}
use Rattle.row_store.proofs.store.Store.all.Goals as goal

pub returns : goal.returns
returns c = record {
  puts = IfOk-weaker c.puts.result _ _ (λ batch e. e ∙ ap puts (as_each Same _ ∙ ap (λ (s : Stored). s.rows) c.self.view_is)) c.puts.ensures;
}
