use Rattle.std.proofs.Common.{arith}
use Rattle.std.proofs.lemmas.List.{get_or_read}
use Rattle.attr_pool.proofs.ChainLaws.{place_within, linked_with}
use Rattle.attr_pool.proofs.chains.hold_at.Goals as goal

pub returns-clause-linked : goal.returns-clause-linked
returns-clause-linked c =
    let slots = c.args.chained.now.slots.items in
    let links = c.args.chained.now.links.items in
    let within = place_within slots links c.requires.linked c.chain_of.result c.args.number c.link_to-place.result c.chain_of.ensures.small (omega arith) c.link_to-place.ensures.link in
    linked_with slots links c.requires.linked c.args.number c.args.name.now c.index_mut.result.now c.take.new.self c.chain_of.result c.link_to-place.result c.index.result.now
    c.requires.place c.take.ensures c.chain_of.ensures.chain c.chain_of.ensures.small c.requires.free c.link_to-place.ensures.link c.link_to-place.ensures.past
    (get_or_read links c.link_to-place.result c.index.result.now within c.index.ensures 0)
