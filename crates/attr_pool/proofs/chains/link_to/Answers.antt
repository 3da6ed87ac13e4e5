use Rattle.std.proofs.Common.{arith}
use Rattle.attr_pool.proofs.ChainLaws.{link_on}
use Rattle.attr_pool.proofs.chains.link_to.Goals as goal

pub links-smaller : goal.links-smaller
links-smaller c =
    let tested = c.from.ensures in
    (link_on c.args.chained.now.slots.items c.args.chained.now.links.items c.requires.linked c.args.chain c.args.number c.links.place c.index.result.now c.index-in-links.result.now c.from-place.result c.requires.chain c.requires.number c.links.invariant c.index.ensures (omega arith) c.index-in-links.ensures c.from-place.ensures).1

pub links-preserved : goal.links-preserved
links-preserved c =
    let tested = c.from.ensures in
    (link_on c.args.chained.now.slots.items c.args.chained.now.links.items c.requires.linked c.args.chain c.args.number c.links.place c.index.result.now c.index-in-links.result.now c.from-place.result c.requires.chain c.requires.number c.links.invariant c.index.ensures (omega arith) c.index-in-links.ensures c.from-place.ensures).0
