use Rattle.std.proofs.Common.{◌≡◌, ◌<◌, [], length, sym, ◌∙◌, ap, subst, subst₂}
use Rattle.std.proofs.lemmas.List.{get_or_default}
use Rattle.path_search.specs.Searches.{IsLeast}
use Rattle.path_search.specs.Visits.{costs_to}
use Rattle.fabric_graph.specs.Routers.{IsGraphOf}
use Rattle.circuit_settling.specs.PresentRecords.{network_in}
use Rattle.circuit_settling.proofs.LeastWays.{walked}
use Rattle.circuit_settling.proofs.rerouting.least_between.Goals as goal

pub returns-clause-path : goal.returns-clause-path
returns-clause-path c =
    let w = network_in c.args.present.now in
    let t = c.args.to.1 in
    let s = c.visit.new.self in
    let listed : length c.costs.result.now ≡ length w.routers =
    ap length c.costs.ensures.costs ∙ c.costs.ensures.places ∙ ap (λ g. length g.through) c.visit.ensures.graph ∙ c.requires.graph.places in
    let read : c.index-costs-to.result ≡ costs_to s.costs t =
    c.index-costs-to.is ∙ get_or_default c.costs.result.now t c.index-costs-to.result [] (subst (λ n. t < n) (sym listed) c.requires.ends.below)
    ∙ ap (λ costs. costs_to costs t) c.costs.ensures.costs in
    walked w c.graph.result.now c.args.from.0.0 c.args.to.0.0 c.args.from.1 t c.index-costs-to.result
    (subst (IsGraphOf w) (sym (c.graph.ensures ∙ c.visit.ensures.graph)) c.requires.graph) c.requires.begins c.requires.ends
    (subst₂ (λ g p. IsLeast g t p) (sym c.graph.ensures) (sym read) c.in_ok-visit.ensures.known.0)
    c.walk.result c.walk.ensures.none c.walk.ensures.first
