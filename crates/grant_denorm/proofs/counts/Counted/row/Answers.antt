use Rattle.std.proofs.Common.{ℕ, nat_lt, map, sym, ◌∙◌, ap, subst}
use Rattle.grant_denorm.specs.PairCounts.{count_of, AreThose}
use Rattle.grant_denorm.specs.FlatRows.{row_at, pairs_of}
use Rattle.grant_denorm.proofs.KeptNumbers.{AreThose_row}
use Rattle.grant_denorm.proofs.counts.Counted.row.Goals as goal

pub returns : goal.returns
returns c =
    let row = c.of.ensures ∙ c.in_ok-row.ensures ∙ ap (λ rows. map (λ (x : ℕ × ℕ). x.0) (row_at rows c.args.a)) c.as_slice.ensures.value in
    subst (λ es. AreThose (λ b. nat_lt 0 (count_of es c.args.a b)) c.of.result) c.self.view_is
    (subst (AreThose (λ b. nat_lt 0 (count_of (pairs_of c.self.inside.rows.items) c.args.a b))) (sym row)
    (AreThose_row c.self.inside.rows.items c.self.invariant.0 c.args.a))
