use Rattle.std.proofs.Common.{◌≡◌, false, ◌==◌, [], List, length, sym, ap, ◌∙◌}
use Rattle.row_codec.specs.declared.changes.Op.{Op}
use Rattle.follow_core.proofs.BatchWords.{some_pass}
use Rattle.follow_core.proofs.judging.are_puts.Goals as goal

pub returns-then-not-is_empty : goal.returns-then-not-is_empty
returns-then-not-is_empty c =
    some_pass [] c.args.ops.now _
    (λ e. let both : false ≡ (0 == 0) = sym c.if-not-is_empty.true ∙ c.is_empty.ensures ∙ ap (λ (l : List Op). length l == 0) e in cc)
    c.all_put.ensures
