use Rattle.std.proofs.Common.{◌≡◌, IfOk, ◌∙◌, ap, subst}
use Rattle.std.specs.List.{filter}
use Rattle.ctrl_model.specs.Numbered.{numbers}
use Rattle.terminators.specs.NamedTerms.{stands_on}
use Rattle.terminators.specs.TermTables.{TermTables}
use Rattle.terminators.proofs.KeptLaws.{kept-filter}
use Rattle.terminators.proofs.store.Terminators.standing_on.Goals as goal

pub returns : goal.returns
returns c =
    subst (λ all. IfOk c.standing_in.result (λ ns. ns ≡ all))
    (kept-filter (λ row. stands_on c.args.kind c.args.number row.1) c.self.inside.terms ∙ ap (λ (u : TermTables). numbers (filter (λ row. stands_on c.args.kind c.args.number row.1) u.terminators.rows)) c.self.view_is)
    c.standing_in.ensures
