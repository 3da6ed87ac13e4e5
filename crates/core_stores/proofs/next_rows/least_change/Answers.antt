use Rattle.std.proofs.Common.{◌∙◌}
use Rattle.std.proofs.lemmas.Result.{IfOk-weaker}
use Rattle.row_writing.specs.RecordChanges.{setting_change_of}
use Rattle.core_stores.specs.ChangeParts.{least_after}
use Rattle.core_stores.proofs.next_rows.least_change.Goals as goal

pub returns : goal.returns
returns c = IfOk-weaker c.setting_change.result _ _ (λ x is.
    is ∙ (λ i. setting_change_of (c.least-before.ensures.least i)
    ((c.least_after-after.ensures ∙ (λ j. least_after (c.of_links.ensures j) (c.least-before.ensures.least j))) i))) c.setting_change.ensures
