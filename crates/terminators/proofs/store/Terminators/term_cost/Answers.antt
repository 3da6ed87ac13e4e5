use Rattle.std.proofs.Common.{Bor, sym, ◌∙◌, ap}
use Rattle.std.specs.Option.{option_map}
use Rattle.terminators.specs.declared.kept.KeptTerm.{KeptTerm}
use Rattle.terminators.proofs.KeptLaws.{not_found, found-cost, cost_fits, load_fits}
use Rattle.terminators.proofs.store.Terminators.term_cost.Goals as goal

pub unreachable-requires : goal.unreachable-requires
unreachable-requires c = not_found c.self.inside.terms c.args.self.now c.args.no.0 c.self.view_is (sym (ap (option_map (λ (r : Bor KeptTerm). r.now)) c.in_default.is) ∙ c.get.ensures) c.requires

pub cost_of-requires-clause-cost : goal.cost_of-requires-clause-cost
cost_of-requires-clause-cost c = cost_fits c.self.inside.terms c.args.no.0 c.in-Some.kept.now c.self.invariant (sym (ap (option_map (λ (r : Bor KeptTerm). r.now)) c.in-Some.is) ∙ c.get.ensures)

pub cost_of-requires-clause-load : goal.cost_of-requires-clause-load
cost_of-requires-clause-load c = load_fits c.self.inside.terms c.args.no.0 c.in-Some.kept.now c.self.invariant (sym (ap (option_map (λ (r : Bor KeptTerm). r.now)) c.in-Some.is) ∙ c.get.ensures)

pub returns : goal.returns
returns c = c.cost_of.ensures ∙ found-cost c.self.inside.terms c.args.self.now c.args.no.0 c.in-Some.kept.now c.self.view_is (sym (ap (option_map (λ (r : Bor KeptTerm). r.now)) c.in-Some.is) ∙ c.get.ensures)
