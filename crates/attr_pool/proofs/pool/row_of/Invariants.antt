use Rattle.std.proofs.Common.{◌≡◌, ℕ, take}
use Rattle.bit_lanes.specs.Lanes.{bit_of}
use Rattle.attr_pool.specs.Slots.{row_bit}
use Rattle.attr_pool.proofs.pool.row_of.Given as goal

abbrev pub invariant-names : goal.invariant-names
invariant-names l = (n : ℕ) → bit_of l.row n ≡ row_bit l.slots (take l.name-index l.names) n
