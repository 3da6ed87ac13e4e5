use Rattle.std.proofs.Common.{◌≡◌, ◌<◌, ◌+◌, length, ap, ◌∙◌, arith}
use Rattle.std.proofs.lemmas.List.{get_or_read}
use Rattle.attr_pool.specs.Slots.{Slot, free_slot}
use Rattle.attr_pool.specs.Chains.{chain_of}
use Rattle.attr_pool.proofs.SlotLemmas.{used_within}
use Rattle.attr_pool.proofs.ChainLaws.{linked_without, emptied}
use Rattle.attr_pool.proofs.chains.free_at.Goals as goal

pub returns-clause-linked : goal.returns-clause-linked
returns-clause-linked c =
    let slots = c.args.chained.now.slots.items in
    let links = c.args.chained.now.links.items in
    let within : c.args.number < length slots = used_within slots c.args.number (omega (arith, c.requires.last)) in
    let here = get_or_read slots c.args.number c.index.result.now within c.index.ensures free_slot in
    let last = get_or_read slots c.args.number c.index_mut.result.now within c.index_mut.ensures.value free_slot in
    let gone : c.let_go.new.self ≡ free_slot = emptied c.index_mut.result.now c.let_go.new.self (ap (λ (s : Slot). s.uses) last ∙ c.requires.last) c.let_go.ensures in
    let reach : 4096 + c.args.number < length links = omega (arith, within, c.requires.linked.slots_long, c.requires.linked.links_long) in
    linked_without slots links c.requires.linked c.args.number c.let_go.new.self c.chain_of-chain.result c.link_to-place.result c.index-2.result.now
    gone (c.chain_of-chain.ensures.chain ∙ ap chain_of (c.name.ensures ∙ ap (λ (s : Slot). s.name) here)) c.chain_of-chain.ensures.small c.requires.last c.link_to-place.ensures.link c.link_to-place.ensures.past
    (get_or_read links (4096 + c.args.number) c.index-2.result.now reach c.index-2.ensures 0)
