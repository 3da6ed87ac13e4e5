use Rattle.std.proofs.Common.{◌∙◌, ap, rules}
use Rattle.terminators.specs.TermTables.{tables_of, with_set}
use Rattle.terminators.proofs.KeptLaws.{is_kept, kept-set}
use Rattle.terminators.proofs.TermLaws.{fit_set}
use Rattle.terminators.proofs.store.Terminators.set.Goals as goal

pub edit-requires-clause-there : goal.edit-requires-clause-there
edit-requires-clause-there c = is_kept c.self.inside.terms c.args.self.now c.args.no.0 c.self.view_is c.requires.there

pub invariant_of-self : goal.invariant_of-self
invariant_of-self c =
    rw (c.edit.ensures.by (λ k. record k { term = record k.term { cost = c.args.cost; precedence = c.args.precedence } }) (λ old new h. search rules))
    (fit_set c.args.no.0 c.args.cost c.args.precedence c.self.inside.terms c.self.invariant c.requires.cost)

pub returns : goal.returns
returns c =
    ap tables_of (c.edit.ensures.by (λ k. record k { term = record k.term { cost = c.args.cost; precedence = c.args.precedence } }) (λ old new h. search rules))
    ∙ kept-set c.args.no.0 c.args.cost c.args.precedence c.self.inside.terms ∙ ap (with_set c.args.no.0 c.args.cost c.args.precedence) c.self.view_is
