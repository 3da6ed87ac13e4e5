use Rattle.std.proofs.Common.{[], ap, ◌∙◌}
use Rattle.slot_reading.specs.BatchRows.{rows_after}
use Rattle.row_store.specs.declared.writing.Writing.TheVariants.{Narrowed}
use Rattle.row_store.proofs.CompactLaws.{puts_lead}
use Rattle.row_store.proofs.NarrowLaws.{as_each, rises_as}
use Rattle.row_store.proofs.compacting.narrowed_rows.Goals as goal

pub returns : goal.returns
returns c = c.in_ok-narrow.ensures ∙ ap (rows_after []) c.in_ok-batch.ensures ∙ puts_lead _ (rises_as Narrowed _ c.requires) ∙ as_each Narrowed _
