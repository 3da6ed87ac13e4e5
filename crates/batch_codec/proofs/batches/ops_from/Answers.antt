use Rattle.std.proofs.Common.{Option, List, ℕ, arith, sym}
use Rattle.std.specs.Option.{option_map}
use Rattle.row_codec.proofs.BatchLaws.{goes_on, no_next}
use Rattle.batch_codec.proofs.batches.ops_from.Goals as goal

pub returns-in_default-clause-bad : goal.returns-in_default-clause-bad
returns-in_default-clause-bad c = λ _ ps spells. no_next c.args.bytes.now c.ops.rest.now _ c.ops.ops.items ps c.ops.invariant (grind arith) (grind arith) spells

pub ops-preserved : goal.ops-preserved
ops-preserved c =
    let value : Option (List ℕ) = option_map (λ v. v.now) c.in-Some.value in
    rw c.in_ok-add_op.ensures (goes_on c.args.bytes.now c.ops.rest.now c.in-Some.after.now _ c.ops.ops.items c.in-Some.key.now value c.ops.invariant (sym c.in-Some.ensures))
