use Rattle.std.proofs.Common.{sym, subst}
use Rattle.row_codec.specs.Batches.{IsBatch}
use Rattle.row_store.proofs.CompactLaws.{puts_batch}
use Rattle.row_store.proofs.NarrowLaws.{rises_as, puttable_as}
use Rattle.row_store.proofs.compacting.spell_all.Goals as goal

pub write_batch-requires : goal.write_batch-requires
write_batch-requires c =
    subst IsBatch (sym c.in_ok-batch.ensures) (puts_batch _ (rises_as c.args.writing _ c.requires.rises) (puttable_as c.args.writing _ c.requires.puttable))
