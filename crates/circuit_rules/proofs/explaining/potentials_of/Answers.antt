use Rattle.std.proofs.Common.{rules, sym, ◌∙◌, subst}
use Rattle.circuit_rules.specs.Views.{network}
use Rattle.circuit_rules.specs.Reached.{AreOn}
use Rattle.circuit_rules.proofs.ReachLaws.{carrying_on}
use Rattle.circuit_rules.proofs.explaining.potentials_of.Goals as goal

pub reaches-requires-clause-on : goal.reaches-requires-clause-on
reaches-requires-clause-on c =
    let w = network c.args.view.now in
    subst (λ os. AreOn w os c.args.most) (sym (c.as_slice.ensures.value ∙ c.in_ok-offers.ensures.offers)) (carrying_on w c.args.service.0 c.args.instance.now c.args.most)

pub returns : goal.returns
returns c = search rules
