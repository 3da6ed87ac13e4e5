use Rattle.std.proofs.Common.{◌∙◌, ap}
use Rattle.terminators.specs.TermTables.{without_term}
use Rattle.terminators.specs.TermTables.{tables_of}
use Rattle.terminators.proofs.KeptLaws.{kept-removed}
use Rattle.terminators.proofs.TermLaws.{fit_removed}
use Rattle.terminators.proofs.store.Terminators.remove.Goals as goal

pub invariant_of-self : goal.invariant_of-self
invariant_of-self c = rw c.remove.ensures (fit_removed c.args.no.0 c.self.inside.terms c.self.invariant)

pub returns : goal.returns
returns c = ap tables_of c.remove.ensures ∙ kept-removed c.args.no.0 c.self.inside.terms ∙ ap (without_term c.args.no.0) c.self.view_is
