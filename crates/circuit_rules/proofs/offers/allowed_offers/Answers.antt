use Rattle.std.proofs.Common.{rules}
use Rattle.circuit_rules.specs.Views.{network}
use Rattle.circuit_rules.proofs.OfferLaws.{offers-pass, not_empty}
use Rattle.circuit_rules.proofs.offers.allowed_offers.Goals as goal

pub returns-then-not-is_empty-clause-offers : goal.returns-then-not-is_empty-clause-offers
returns-then-not-is_empty-clause-offers c =
    let os = c.in_ok-offers.offers in (
      offers-pass (network c.args.view.now) c.args.service.0 c.args.instance.now os.items c.in_ok-offers.ensures.offers
          (not_empty c.is_empty.result os.len os.items os.ok.0 c.is_empty.ensures c.if-not-is_empty.true),
      c.in_ok-offers.ensures.offers,
    )

pub returns-then-branch-clause-offers : goal.returns-then-branch-clause-offers
returns-then-branch-clause-offers c = search rules

pub returns-clause-offers : goal.returns-clause-offers
returns-clause-offers c = search rules
