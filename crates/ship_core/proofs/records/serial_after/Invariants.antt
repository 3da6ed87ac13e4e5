use Rattle.std.proofs.Common.{◌≡◌, drop}
use Rattle.ship_core.specs.Steps.{serial_after}
use Rattle.ship_core.proofs.records.serial_after.Given as goal

-- none of the operations before this one says anything of the serial
abbrev pub invariant-ops : goal.invariant-ops
invariant-ops l = serial_after l.serial (drop l.op-index l.ops) ≡ serial_after l.serial l.ops
