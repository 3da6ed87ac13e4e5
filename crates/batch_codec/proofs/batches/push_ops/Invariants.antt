use Rattle.std.proofs.Common.{◌≡◌, ◌++◌, take}
use Rattle.row_codec.specs.Batches.{batch_bytes}
use Rattle.batch_codec.proofs.batches.push_ops.Given as goal

-- the operations before the index are written
abbrev pub invariant-ops : goal.invariant-ops
invariant-ops l = l.out.items ≡ l.fn.out.items ++ batch_bytes (take l.op-index l.ops)
