use Rattle.std.proofs.Common.{◌≡◌, ◌<◌, [], length, sym, ◌∙◌, ap, subst}
use Rattle.std.proofs.lemmas.List.{get_or_read}
use Rattle.path_search.specs.Visits.{SearchSeen, costs_to, IsKnown}
use Rattle.path_search.proofs.KnownCosts.{known_already}
use Rattle.path_search.proofs.visiting.CostSearch.visit.Goals as goal

pub returns-else-len-eq0-clause-known : goal.returns-else-len-eq0-clause-known
returns-else-len-eq0-clause-known c =
    let within : c.args.place < length c.self.inside.graph.through = subst (λ (s : SearchSeen). c.args.place < length s.graph.through) (sym c.self.view_is) c.requires in
    let listed : c.args.place < length c.self.inside.costs.items = subst (λ n. c.args.place < n) (sym c.self.invariant.places) within in
    let read : c.index.result.now ≡ costs_to c.self.inside.costs.items c.args.place = get_or_read c.self.inside.costs.items c.args.place c.index.result.now listed c.index.ensures [] in
    subst (λ (s : SearchSeen). IsKnown s.graph c.args.place (costs_to s.costs c.args.place)) c.self.view_is
    (known_already c.self.inside.graph c.self.inside.lists c.self.inside.costs.items c.args.place c.self.invariant within (λ e. c.if-len-eq0.false (c.len.ensures ∙ ap length read ∙ e)))
