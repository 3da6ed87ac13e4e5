use Rattle.std.proofs.Common.{List, length}
use Rattle.std.specs.Option.{option_map}
use Rattle.row_codec.specs.declared.changes.Op.{Op}
use Rattle.row_codec.proofs.BatchLaws.{SoFar}
use Rattle.batch_codec.proofs.batches.is_batch.Given as goal

-- some operations were read
abbrev pub invariant-ops : goal.invariant-ops
invariant-ops l = (ops : List Op) × SoFar l.bytes (option_map (λ k. k.now) l.last) l.rest ops

abbrev pub decreases-ops : goal.decreases-ops
decreases-ops l = length l.rest
