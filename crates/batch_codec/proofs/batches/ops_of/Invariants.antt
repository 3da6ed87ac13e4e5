use Rattle.std.proofs.Common.{◌≡◌, take}
use Rattle.row_codec.specs.Batches.{batch_of}
use Rattle.batch_codec.proofs.batches.ops_of.Given as goal

-- the operations are those of the changes before the index
abbrev pub invariant-changes : goal.invariant-changes
invariant-changes l = l.ops.items ≡ batch_of (take l.change-index l.changes)
