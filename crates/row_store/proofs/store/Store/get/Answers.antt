use Rattle.std.proofs.Common.{ap, ◌∙◌}
use Rattle.row_codec.specs.RowDifference.{value_at}
use Rattle.row_codec.specs.Batches.{bytes_cmp}
use Rattle.row_store.specs.StoredRows.{Stored}
use Rattle.slot_reading.proofs.MapRows.{looked_up, copied_is}
use Rattle.row_store.proofs.store.Store.get.Goals as goal

pub returns : goal.returns
returns c =
    copied_is c.get.result ∙ c.get.ensures.value ∙ looked_up c.self.inside.rows.entries c.args.key.now
    ∙ ap (λ (s : Stored). value_at bytes_cmp s.rows c.args.key.now) c.self.view_is
