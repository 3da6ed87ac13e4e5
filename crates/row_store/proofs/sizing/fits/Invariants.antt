use Rattle.std.proofs.Common.{◌≡◌, ◌+◌, length, take}
use Rattle.row_codec.specs.Batches.{batch_bytes}
use Rattle.row_store.proofs.sizing.fits.Given as goal

abbrev pub invariant-ops : goal.invariant-ops
invariant-ops l = l.left + length (batch_bytes (take l.op-index l.ops)) ≡ l.initial.left
