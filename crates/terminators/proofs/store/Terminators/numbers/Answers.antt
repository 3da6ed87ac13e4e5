use Rattle.std.proofs.Common.{◌≡◌, IfOk, ◌∙◌, ap, sym, subst}
use Rattle.ctrl_model.specs.Numbered.{numbers}
use Rattle.terminators.specs.TermTables.{TermTables, KeepsTerms}
use Rattle.terminators.proofs.KeptLaws.{keeps, kept-numbers}
use Rattle.terminators.proofs.store.Terminators.numbers.Goals as goal

pub returns-clause-all : goal.returns-clause-all
returns-clause-all c =
    subst (λ all. IfOk c.numbers.result (λ ns. ns ≡ all)) (sym (kept-numbers c.self.inside.terms) ∙ ap (λ (u : TermTables). numbers u.terminators.rows) c.self.view_is) c.numbers.ensures.numbers

pub returns-clause-keeps : goal.returns-clause-keeps
returns-clause-keeps c = subst KeepsTerms c.self.view_is (keeps c.self.inside.terms c.numbers.ensures.order.first c.numbers.ensures.order.last c.numbers.ensures.order.ordered c.self.invariant)
