use Rattle.std.proofs.Common.{Bor, sym, ◌∙◌, ap}
use Rattle.std.specs.Option.{option_map}
use Rattle.terminators.specs.declared.kept.KeptTerm.{KeptTerm}
use Rattle.terminators.proofs.KeptLaws.{not_found, found-load}
use Rattle.terminators.proofs.store.Terminators.open_circuits.Goals as goal

pub unreachable-requires : goal.unreachable-requires
unreachable-requires c = not_found c.self.inside.terms c.args.self.now c.args.no.0 c.self.view_is (sym (ap (option_map (λ (r : Bor KeptTerm). r.now)) c.in_default.is) ∙ c.get.ensures) c.requires

pub returns : goal.returns
returns c = found-load c.self.inside.terms c.args.self.now c.args.no.0 c.in-Some.kept.now c.self.view_is (sym (ap (option_map (λ (r : Bor KeptTerm). r.now)) c.in-Some.is) ∙ c.get.ensures)
