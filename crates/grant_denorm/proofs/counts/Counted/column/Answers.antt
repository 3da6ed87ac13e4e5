use Rattle.std.proofs.Common.{nat_lt, sym, ◌∙◌, ap, subst}
use Rattle.grant_denorm.specs.PairCounts.{count_of, AreThose}
use Rattle.grant_denorm.specs.FlatRows.{count_in, pairs_of}
use Rattle.grant_denorm.proofs.KeptNumbers.{kept, AreThose_column}
use Rattle.grant_denorm.proofs.counts.Counted.column.Goals as goal

pub returns : goal.returns
returns c =
    let column = c.of.ensures ∙ c.in_ok-column.ensures ∙ ap (kept (λ row. nat_lt 0 (count_in row c.args.b))) c.as_slice.ensures.value in
    subst (λ es. AreThose (λ a. nat_lt 0 (count_of es a c.args.b)) c.of.result) c.self.view_is
    (subst (AreThose (λ a. nat_lt 0 (count_of (pairs_of c.self.inside.rows.items) a c.args.b))) (sym column)
    (AreThose_column c.self.inside.rows.items c.self.invariant.0 c.args.b))
