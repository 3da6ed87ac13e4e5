use Rattle.std.proofs.Common.{ap, sym, ◌∙◌, map, subst}
use Rattle.std.proofs.lemmas.Result.{IfOk-weaker}
use Rattle.row_codec.specs.Batches.{IsBatch}
use Rattle.row_codec.specs.NarrowedRows.{narrowed}
use Rattle.slot_reading.specs.BatchRows.{puts}
use Rattle.row_store.specs.StoredRows.{Stored}
use Rattle.row_store.specs.declared.writing.Writing.TheVariants.{Narrowed}
use Rattle.row_store.proofs.CompactLaws.{puts_batch}
use Rattle.row_store.proofs.NarrowLaws.{as_each, rises_as, puttable_as}
use Rattle.row_store.proofs.store.Store.narrowed.Goals as goal

pub returns : goal.returns
returns c = record {
  puts = IfOk-weaker c.puts.result _ _ (λ batch e. e ∙ ap puts (as_each Narrowed _ ∙ ap (λ (s : Stored). map narrowed s.rows) c.self.view_is)) c.puts.ensures;
  batch = λ fresh. IfOk-weaker c.puts.result _ _
      (λ batch e. subst IsBatch (sym e)
      (puts_batch _ (rises_as Narrowed _ c.self.invariant.0) (puttable_as Narrowed _ (c.self.invariant.2 (ap (λ (s : Stored). s.spent) c.self.view_is ∙ fresh)))))
      c.puts.ensures;
}
