use Rattle.std.proofs.Common.{◌++◌, map, false, sym, ◌∙◌, ap}
use Rattle.ctrl_model.specs.Claims.{reach_of}
use Rattle.circuit_rules.specs.Views.{network}
use Rattle.circuit_rules.specs.Offers.{is_carried}
use Rattle.circuit_rules.proofs.ReachLaws.{passed_over}
use Rattle.circuit_rules.proofs.reaching.reaches.Goals as goal

pub places-preserved-then-not-is_carried : goal.places-preserved-then-not-is_carried
places-preserved-then-not-is_carried c = record {
  search = c.places.invariant.search;
  entries = ap (λ ns. c.places.reaches.items ++ map (reach_of (network c.args.view.now)) ns)
      (sym (passed_over (is_carried c.args.offers.now c.args.most) c.args.view.now.routers.now c.places.place (record { no = record { 0 = 0 }; cost = 0; through = false; connected = false }) c.places-test.true
      (sym c.is_carried.ensures ∙ c.if-not-is_carried.true)))
      ∙ c.places.invariant.entries;
}
