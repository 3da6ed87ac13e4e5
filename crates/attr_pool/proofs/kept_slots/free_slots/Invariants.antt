use Rattle.std.proofs.Common.{◌≡◌, ◌≤◌, ◌-◌, length, All}
use Rattle.attr_pool.specs.Slots.{free_slot}
use Rattle.attr_pool.proofs.kept_slots.free_slots.Given as goal

abbrev pub invariant-slots : goal.invariant-slots
invariant-slots l = (length l.slots.items ≤ 4096) × All (λ slot. slot ≡ free_slot) l.slots.items

abbrev pub decreases-slots : goal.decreases-slots
decreases-slots l = 4096 - length l.slots.items
