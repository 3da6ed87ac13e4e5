use Rattle.std.proofs.Common.{map, ◌∙◌, ap}
use Rattle.circuit_rules.specs.Views.{network, asked}
use Rattle.circuit_rules.specs.Searched.{entry_rules, offer_rules, entry_of}
use Rattle.circuit_rules.proofs.DecideLaws.{exits_are}
use Rattle.circuit_rules.proofs.RequestLaws.{both_pass}
use Rattle.circuit_rules.proofs.deciding.ends_of.Goals as goal

pub returns-clause-ends : goal.returns-clause-ends
returns-clause-ends c =
    let w = network c.args.view.now in
    let ask = asked c.args.ask.now in (
      both_pass (entry_rules w ask.ingress c.args.identity.0 c.args.service.0) (offer_rules w c.args.service.0 ask.instance) c.in_ok-ingresses.ensures.allowed.0 c.in_ok-offers.ensures.offers.0,
      (
        c.in_ok-entries.ensures ∙ ap (map (entry_of w.routers)) (c.as_slice.ensures.value ∙ c.in_ok-ingresses.ensures.allowed.1),
        c.in_ok-exits.ensures ∙ exits_are w ask c.args.service.0 c.as_slice-2.result.now (c.as_slice-2.ensures.value ∙ c.in_ok-offers.ensures.offers.1),
      ),
    )
