use Rattle.std.proofs.Common.{◌≡◌, ◌<◌, ◌≤◌, length, sym, subst}
use Rattle.fabric_graph.specs.Routers.{number_at}
use Rattle.circuit_rules.specs.Searched.{place_in}
use Rattle.circuit_rules.specs.Views.{network}
use Rattle.circuit_rules.proofs.CheckLaws.{placed_number, absent_unsettled, checked_settled}
use Rattle.circuit_rules.proofs.settling.is_certified.Goals as goal

pub returns : goal.returns
returns c =
    let w = network c.args.view.now in
    let placed : c.place_in-place.result ≡ place_in w.routers c.args.entry.now.router.0 = c.place_in-place.ensures.place in
    checked_settled w c.args.graph.now c.args.entry.now c.place_in-place.result c.places-places.ensures.graph c.requires.graph c.if-place-view.false
    (subst (λ v. number_at w.routers v ≡ c.args.entry.now.router.0) (sym placed)
    (placed_number w.routers c.args.entry.now.router.0 (subst (λ v. v < length w.routers) placed c.if-place-view.false)))
    c.check.result c.check.ensures.certified

pub returns-then-place-view : goal.returns-then-place-view
returns-then-place-view c =
    sym (absent_unsettled (network c.args.view.now) c.args.entry.now (subst (λ n. length c.args.view.now.routers.now ≤ n) c.place_in-place.ensures.place c.if-place-view.true))
