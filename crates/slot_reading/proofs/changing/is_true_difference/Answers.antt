use Rattle.std.proofs.Common.{◌≡◌, false, ◌==◌, List, length, sym, ap, ◌∙◌}
use Rattle.row_codec.specs.declared.changes.Op.{Op}
use Rattle.slot_reading.proofs.BatchLaws.{tells_true}
use Rattle.slot_reading.proofs.changing.is_true_difference.Goals as goal

pub returns-then-not-is_empty : goal.returns-then-not-is_empty
returns-then-not-is_empty c =
    tells_true _ c.args.ops.now _ c.requires.rises c.requires.batch
    (λ e. let both : false ≡ (0 == 0) = sym c.if-not-is_empty.true ∙ c.is_empty.ensures ∙ ap (λ (l : List Op). length l == 0) e in cc)
    c.all_change.ensures
