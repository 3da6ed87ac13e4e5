use Rattle.std.proofs.Common.{sym, ap, ◌∙◌, arith}
use Rattle.std.proofs.lemmas.List.{get_or_read}
use Rattle.attr_pool.specs.Slots.{free_slot, is_free}
use Rattle.attr_pool.proofs.ChainLaws.{position_is, position_is_none}
use Rattle.attr_pool.proofs.kept_slots.free_from.Goals as goal

pub returns-then-is_free : goal.returns-then-is_free
returns-then-is_free c =
    let here = get_or_read c.args.slots.now c.slots.number c.index-slots-number.result (omega arith) c.index-slots-number.is free_slot in
    sym (position_is is_free c.args.slots.now c.slots.number (omega arith) (sym (ap is_free here) ∙ sym c.is_free.ensures ∙ c.if-is_free.true) c.slots.invariant)

pub returns : goal.returns
returns c = sym (position_is_none is_free c.args.slots.now (λ k l. c.slots.invariant k (omega arith)))
