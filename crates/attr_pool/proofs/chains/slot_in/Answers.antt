use Rattle.std.proofs.Common.{◌≡◌, ◌<◌, get_or, length, sym, subst, ap, ◌∙◌, arith}
use Rattle.std.proofs.lemmas.List.{get_or_read}
use Rattle.attr_pool.specs.Slots.{free_slot, holds}
use Rattle.attr_pool.proofs.ChainLaws.{Looking, look_first, look_on, position_is, position_is_none}
use Rattle.attr_pool.proofs.chains.slot_in.Goals as goal

pub chain-init : goal.chain-init
chain-init c =
    let slots = c.args.chained.now.slots.items in
    let links = c.args.chained.now.links.items in
    let small = subst (λ k. k < 4096) c.chain_of.ensures.chain c.chain_of.ensures.small in
    let within : c.chain_of.result < length links = omega (arith, c.chain_of.ensures.small, c.requires.links_long) in
    let read : c.from-number.result ≡ get_or links c.chain_of.result 0 = c.from-number.ensures ∙ get_or_read links c.chain_of.result c.index.result.now within c.index.ensures 0 in
    subst (Looking slots c.args.name.now) (sym (read ∙ ap (λ k. get_or links k 0) c.chain_of.ensures.chain)) (look_first slots links c.requires c.args.name.now small)

pub returns-then-holds : goal.returns-then-holds
returns-then-holds c =
    let slots = c.args.chained.now.slots.items in
    let within : c.chain.number < length slots = omega (arith, c.requires.slots_long) in
    let here = get_or_read slots c.chain.number c.index-in-chain.result.now within c.index-in-chain.ensures free_slot in
    sym (position_is (holds c.args.name.now) slots c.chain.number within (sym (ap (holds c.args.name.now) here) ∙ sym c.holds.ensures ∙ c.if-holds.true) c.chain.invariant.passed)

pub chain-smaller : goal.chain-smaller
chain-smaller c =
    let on = look_on c.args.chained.now.slots.items c.args.chained.now.links.items c.requires c.args.name.now c.chain_of.result c.chain.number c.index-in-chain-2.result.now c.from-number-in-chain.result c.index-in-chain.result.now c.holds.result c.chain_of.ensures.chain c.chain_of.ensures.small c.chain.invariant (omega arith) c.index-in-chain.ensures c.holds.ensures c.if-holds.false c.index-in-chain-2.ensures c.from-number-in-chain.ensures in
    omega (arith, on.1)

pub chain-preserved : goal.chain-preserved
chain-preserved c =
    (look_on c.args.chained.now.slots.items c.args.chained.now.links.items c.requires c.args.name.now c.chain_of.result c.chain.number c.index-in-chain-2.result.now c.from-number-in-chain.result c.index-in-chain.result.now c.holds.result c.chain_of.ensures.chain c.chain_of.ensures.small c.chain.invariant (omega arith) c.index-in-chain.ensures c.holds.ensures c.if-holds.false c.index-in-chain-2.ensures c.from-number-in-chain.ensures).0

pub returns : goal.returns
returns c = sym (position_is_none (holds c.args.name.now) c.args.chained.now.slots.items (λ k l. c.chain.invariant.passed k (omega (arith, l, c.requires.slots_long))))
