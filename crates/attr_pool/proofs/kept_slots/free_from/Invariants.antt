use Rattle.std.proofs.Common.{◌≡◌, ◌<◌, ℕ, false}
use Rattle.attr_pool.specs.Slots.{is_free, slot_at}
use Rattle.attr_pool.proofs.kept_slots.free_from.Given as goal

abbrev pub invariant-slots : goal.invariant-slots
invariant-slots l = (n : ℕ) → n < l.number → is_free (slot_at l.slots n) ≡ false
