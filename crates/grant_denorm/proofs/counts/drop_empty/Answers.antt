use Rattle.std.proofs.Common.{[], sym, ◌∙◌, ap, subst, length, eqb-true}
use Rattle.std.proofs.lemmas.List.{get_or_default}
use Rattle.grant_denorm.specs.FlatRows.{AreRows, pairs_of}
use Rattle.grant_denorm.proofs.RowSteps.{AreRows_remove}
use Rattle.grant_denorm.proofs.FlatCounts.{pairs_without}
use Rattle.grant_denorm.proofs.counts.drop_empty.Goals as goal

pub returns-then-is_empty-clause-rows : goal.returns-then-is_empty-clause-rows
returns-then-is_empty-clause-rows c = subst AreRows (sym c.remove-row.ensures.items) (AreRows_remove c.args.rows.now.items c.requires.rows c.args.at c.requires.place)

pub returns-then-is_empty-clause-same : goal.returns-then-is_empty-clause-same
returns-then-is_empty-clause-same c =
    let read = c.index.ensures ∙ get_or_default c.args.rows.now.items c.args.at c.index.result.now (0, []) c.requires.place in
    let none = ap (λ r. length r.1) (sym read) ∙ eqb-true (length c.index.result.now.1) 0 (sym c.is_empty.ensures ∙ c.if-is_empty.true) in
    ap pairs_of c.remove-row.ensures.items ∙ pairs_without c.args.rows.now.items c.args.at c.requires.place none
