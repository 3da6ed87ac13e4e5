use Rattle.std.proofs.Common.{◌∙◌, ap, rules}
use Rattle.terminators.specs.TermTables.{tables_of, with_open, open_at}
use Rattle.terminators.proofs.KeptLaws.{is_kept, kept-open, opened}
use Rattle.terminators.proofs.TermLaws.{fit_open}
use Rattle.terminators.proofs.store.Terminators.set_open.Goals as goal

pub edit-requires-clause-there : goal.edit-requires-clause-there
edit-requires-clause-there c = is_kept c.self.inside.terms c.args.self.now c.args.no.0 c.self.view_is c.requires.there

pub invariant_of-self : goal.invariant_of-self
invariant_of-self c =
    rw (c.edit.ensures.by (λ k. record k { load = c.args.count }) (λ old new h. search rules)) (fit_open c.args.no.0 c.args.count c.self.inside.terms c.self.invariant c.requires.most)

pub returns-clause-set : goal.returns-clause-set
returns-clause-set c =
    ap tables_of (c.edit.ensures.by (λ k. record k { load = c.args.count }) (λ old new h. search rules))
    ∙ kept-open c.args.no.0 c.args.count c.self.inside.terms ∙ ap (with_open c.args.no.0 c.args.count) c.self.view_is

pub returns-clause-open : goal.returns-clause-open
returns-clause-open c =
    ap (λ t. open_at t c.args.no.0)
    (ap tables_of (c.edit.ensures.by (λ k. record k { load = c.args.count }) (λ old new h. search rules)) ∙ kept-open c.args.no.0 c.args.count c.self.inside.terms)
    ∙ opened c.self.inside.terms c.args.no.0 c.args.count (is_kept c.self.inside.terms c.args.self.now c.args.no.0 c.self.view_is c.requires.there)
