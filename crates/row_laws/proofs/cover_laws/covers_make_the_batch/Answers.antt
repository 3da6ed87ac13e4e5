use Rattle.std.proofs.Common.{sym, subst}
use Rattle.row_codec.specs.Batches.{IsBatch}
use Rattle.row_laws.proofs.BatchForms.{IsBatch-between}
use Rattle.row_laws.proofs.Covers.{Covers-batch}
use Rattle.row_laws.proofs.WrittenRows.{IsNumbered-valid, AscendIn-valid}
use Rattle.row_laws.proofs.cover_laws.covers_make_the_batch.Goals as goal

pub returns-clause-batch : goal.returns-clause-batch
returns-clause-batch c = Covers-batch

pub returns-clause-form : goal.returns-clause-form
returns-clause-form c f s t changes v w cover =
    subst IsBatch (sym (Covers-batch f s t changes (IsNumbered-valid s v) (IsNumbered-valid t w) (AscendIn-valid f s v) (AscendIn-valid f t w) cover)) (IsBatch-between f s t v w)
