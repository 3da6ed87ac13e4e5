use Rattle.std.proofs.Common.{◌∙◌, ap}
use Rattle.terminators.specs.TermChanges.{without_terms}
use Rattle.terminators.specs.TermTables.{tables_of}
use Rattle.terminators.proofs.KeptLaws.{kept-without}
use Rattle.terminators.proofs.TermLaws.{fit_without}
use Rattle.terminators.proofs.store.Terminators.remove_each.Goals as goal

pub invariant_of-self : goal.invariant_of-self
invariant_of-self c = rw c.remove_each.ensures (fit_without c.args.gone.now c.self.inside.terms c.self.invariant)

pub returns : goal.returns
returns c = ap tables_of c.remove_each.ensures ∙ kept-without c.args.gone.now c.self.inside.terms ∙ ap (without_terms c.args.gone.now) c.self.view_is
