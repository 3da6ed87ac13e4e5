use Rattle.std.proofs.Common.{◌∙◌, sym}
use Rattle.path_certificate.specs.Graphs.{graph_hops}
use Rattle.path_search.proofs.FirstChains.{first_hop, next_step, chain_more, chain_whole, not_stuck, first_path}
use Rattle.path_search.proofs.walking.first_links.Goals as goal

pub unreachable-requires : goal.unreachable-requires
unreachable-requires c =
    not_stuck c.args.graph.now c.args.target c.args.potentials.now c.links.at c.places.ensures.graph c.requires.target
    c.requires.least c.links.invariant.place c.links.invariant.there c.links-test.true
    (sym c.first_tight.ensures ∙ c.in_default.is)

pub links-smaller : goal.links-smaller
links-smaller c =
    (next_step c.args.graph.now c.args.target c.args.potentials.now c.links.at c.in-Some.step c.places.ensures.graph
    (first_hop c.args.graph.now c.args.target c.args.potentials.now c.links.at c.in-Some.step c.places.ensures.graph
    (sym c.in-Some.ensures))).less

pub links-preserved : goal.links-preserved
links-preserved c =
    let first = first_hop c.args.graph.now c.args.target c.args.potentials.now c.links.at c.in-Some.step
    c.places.ensures.graph (sym c.in-Some.ensures) in
    let next = next_step c.args.graph.now c.args.target c.args.potentials.now c.links.at c.in-Some.step c.places.ensures.graph first in
    record {
      place = next.place;
      there = next.there;
      told = rw c.in_ok-push.ensures.items
          (chain_more (graph_hops c.args.graph.now c.args.target) c.args.potentials.now c.args.target c.args.from c.links.at
          c.in-Some.step.link (c.in-Some.step.to, c.in-Some.step.cost) c.links.links.items first c.links.invariant.told);
    }

pub returns : goal.returns
returns c =
    first_path _ _ _ _ _ c.places.ensures.graph c.requires.target c.requires.there c.requires.least
    (chain_whole (graph_hops c.args.graph.now c.args.target) c.args.potentials.now c.args.target c.args.from c.links.at
    c.links.links.items c.links-test.false c.links.invariant.told)
