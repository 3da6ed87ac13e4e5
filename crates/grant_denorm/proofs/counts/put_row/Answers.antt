use Rattle.std.proofs.Common.{◌∷◌, [], sym, ◌∙◌, ap, subst, length}
use Rattle.std.specs.List.{insert}
use Rattle.grant_denorm.specs.PairCounts.{Raises}
use Rattle.grant_denorm.specs.FlatRows.{AreRows, pairs_of}
use Rattle.grant_denorm.proofs.FlatCounts.{length_insert}
use Rattle.grant_denorm.proofs.RowSteps.{AreRows_put, Raises_put}
use Rattle.grant_denorm.proofs.counts.put_row.Goals as goal

pub returns-clause-rows : goal.returns-clause-rows
returns-clause-rows c =
    subst AreRows (sym (c.in_ok-insert.ensures.items ∙ ap (insert c.args.rows.now.items c.args.at) c.in_ok-row.ensures)) (AreRows_put c.args.rows.now.items c.requires.rows c.args.a c.args.at c.args.b c.requires.place)

pub returns-clause-ok : goal.returns-clause-ok
returns-clause-ok c =
    subst (λ xs. Raises (pairs_of c.args.rows.now.items) (pairs_of xs) c.args.a c.args.b) (sym (c.in_ok-insert.ensures.items ∙ ap (insert c.args.rows.now.items c.args.at) c.in_ok-row.ensures))
    (Raises_put c.args.rows.now.items c.requires.rows c.args.a c.args.at c.args.b c.requires.place)

pub returns-clause-more : goal.returns-clause-more
returns-clause-more c =
    ap (λ xs. length (pairs_of xs)) (c.in_ok-insert.ensures.items ∙ ap (insert c.args.rows.now.items c.args.at) c.in_ok-row.ensures) ∙ length_insert c.args.rows.now.items c.args.at c.args.a ((c.args.b, 1) ∷ [])
