use Rattle.std.proofs.Common.{None, Some, Bor, sym, ◌∙◌, ap}
use Rattle.std.specs.Option.{option_map, ok_or}
use Rattle.terminators.specs.declared.kept.KeptTerm.{KeptTerm}
use Rattle.terminators.specs.declared.store.TermFault.TheVariants.{Unknown}
use Rattle.terminators.proofs.KeptLaws.{found}
use Rattle.terminators.proofs.store.Terminators.get.Goals as goal

pub returns-in-Some : goal.returns-in-Some
returns-in-Some c =
    sym (ap (λ o. ok_or o Unknown) (found c.self.inside.terms c.args.self.now c.args.no.0 (Some c.in-Some.kept.now) c.self.view_is (sym (ap (option_map (λ (r : Bor KeptTerm). r.now)) c.in-Some.is) ∙ c.get.ensures)))

pub returns-in-None : goal.returns-in-None
returns-in-None c =
    sym (ap (λ o. ok_or o Unknown) (found c.self.inside.terms c.args.self.now c.args.no.0 None c.self.view_is (sym (ap (option_map (λ (r : Bor KeptTerm). r.now)) c.in-None.is) ∙ c.get.ensures)))
