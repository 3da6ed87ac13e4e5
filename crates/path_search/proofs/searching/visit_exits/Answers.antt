use Rattle.std.proofs.Common.{◌∙◌}
use Rattle.path_search.proofs.VisitLaws.{visited_more, visited_all}
use Rattle.path_search.proofs.searching.visit_exits.Goals as goal

pub exits-preserved : goal.exits-preserved
exits-preserved c = record {
  graph = c.visit.ensures.graph ∙ c.exits.invariant.graph;
  each = visited_more c.exits.search.graph c.visit.new.self.graph c.args.exits.now c.exits.search.costs c.visit.new.self.costs c.exits.exit-index _ c.exits-test.true
      c.exits.invariant.each c.in_ok-visit.ensures.known c.in_ok-visit.ensures.others;
}

pub returns-clause-costs : goal.returns-clause-costs
returns-clause-costs c = visited_all c.exits.search.graph c.args.exits.now c.exits.search.costs c.exits.exit-index c.exits-test.false c.exits.invariant.each
