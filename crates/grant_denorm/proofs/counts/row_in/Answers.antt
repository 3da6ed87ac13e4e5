use Rattle.std.proofs.Common.{◌≡◌, ℕ, [], map, IfOk, sym, ◌∙◌, ap, subst}
use Rattle.grant_denorm.proofs.FlatLaws.{value_read, value_absent}
use Rattle.grant_denorm.proofs.counts.row_in.Goals as goal

pub returns-in-Ok : goal.returns-in-Ok
returns-in-Ok c =
    subst (λ row. IfOk c.numbers.result (λ v. v.items ≡ map (λ (x : ℕ × ℕ). x.0) row))
    (sym (value_read [] c.args.rows.now c.requires.ascends c.args.a c.in-Ok.at c.in-Ok.ensures.found c.index-rows-at.result c.index-rows-at.is)) c.numbers.ensures

pub returns-in-Err : goal.returns-in-Err
returns-in-Err c = c.new.ensures.items ∙ ap (map (λ (x : ℕ × ℕ). x.0)) (sym (value_absent [] c.args.rows.now c.args.a c.in-Err.field-0 c.in-Err.ensures.absent))
