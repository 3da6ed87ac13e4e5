use Rattle.std.proofs.Common.{◌≡◌, ◌+◌, ℕ, List, take}
use Rattle.attr_pool.specs.Slots.{IsPool}
use Rattle.attr_pool.specs.Uses.{times, uses_of, KeepsSlots}
use Rattle.attr_pool.proofs.uses.release_each.Given as goal

abbrev pub invariant-names : goal.invariant-names
invariant-names l = record {
  so_far : (q : List ℕ) → uses_of q l.slots + times q (take l.name-index l.names) ≡ uses_of q l.fn.slots;
  slots : KeepsSlots l.fn.slots l.slots;
  pool : IsPool l.slots;
}
