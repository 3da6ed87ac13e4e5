use Rattle.std.proofs.Common.{◌++◌, ◌-◌, take, replicate, sym, ◌∙◌, arith}
use Rattle.attr_pool.proofs.ChainLaws.{linked_free, held_none}
use Rattle.attr_pool.proofs.kept_slots.KeptSlots.free.Goals as goal

pub invariant_of-result : goal.invariant_of-result
invariant_of-result c = record {
  linked = linked_free c.in_ok-slots.slots.items c.resize.new.self.items c.in_ok-slots.ensures.long c.in_ok-slots.ensures.free
      (c.in_ok-resize.ensures.items ∙ (λ j. take 8192 (c.new-links.ensures.items j) ++ replicate (8192 - c.new-links.ensures.len j) 4096));
  count = sym (held_none c.in_ok-slots.slots.items c.in_ok-slots.ensures.free);
  within = omega arith;
  low = λ n l. absurd (omega (arith, l));
}
