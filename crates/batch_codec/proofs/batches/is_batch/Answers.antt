use Rattle.std.proofs.Common.{◌++◌, ◌∷◌, [], Option, List, ℕ, arith, sym}
use Rattle.std.specs.Option.{option_map}
use Rattle.row_codec.specs.Batches.{op_at}
use Rattle.row_codec.proofs.BatchLaws.{goes_on, no_next}
use Rattle.batch_codec.proofs.batches.is_batch.Goals as goal

pub returns-in_default-clause-no : goal.returns-in_default-clause-no
returns-in_default-clause-no c = λ _ ps spells.
    no_next c.args.bytes.now c.ops.rest.now _ c.ops.invariant.0 ps c.ops.invariant.1 (grind arith) (grind arith) spells

pub ops-preserved : goal.ops-preserved
ops-preserved c =
    let value : Option (List ℕ) = option_map (λ v. v.now) c.in-Some.field-0-1 in (
      c.ops.invariant.0 ++ op_at c.in-Some.key.now value ∷ [],
      goes_on c.args.bytes.now c.ops.rest.now c.in-Some.after.now _ c.ops.invariant.0 c.in-Some.key.now value c.ops.invariant.1 (sym c.in-Some.ensures),
    )
