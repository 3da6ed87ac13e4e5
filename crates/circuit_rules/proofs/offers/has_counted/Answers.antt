use Rattle.std.proofs.Common.{◌∙◌, ap, not, sym}
use Rattle.std.specs.List.{list_any}
use Rattle.model_laws.proofs.NumberLaws.{Between-none_twice}
use Rattle.circuit_rules.specs.Views.{network}
use Rattle.circuit_rules.specs.Searched.{counts}
use Rattle.circuit_rules.proofs.OfferLaws.{nothing_counted}
use Rattle.circuit_rules.proofs.offers.has_counted.Goals as goal

pub returns : goal.returns
returns c =
    let w = network c.args.view.now in
    nothing_counted w c.args.service.0 c.args.instance.now (Between-none_twice 1 c.args.view.now.terminators.now.terminators.next w.terminators c.requires.ordered)
    ∙ ap not (ap (list_any (counts w c.args.service.0 c.args.instance.now)) (sym c.in_ok-numbers.ensures.all ∙ sym c.as_slice.ensures) ∙ sym c.counts_one.ensures)
