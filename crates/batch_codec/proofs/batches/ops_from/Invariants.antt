use Rattle.std.proofs.Common.{length}
use Rattle.std.specs.Option.{option_map}
use Rattle.row_codec.proofs.BatchLaws.{SoFar}
use Rattle.batch_codec.proofs.batches.ops_from.Given as goal

-- the operations so far were read
abbrev pub invariant-ops : goal.invariant-ops
invariant-ops l = SoFar l.bytes (option_map (λ k. k.now) l.last) l.rest l.ops.items

abbrev pub decreases-ops : goal.decreases-ops
decreases-ops l = length l.rest
