-- Batches of which each entry changes something (docs/PROMISES.md, "Rows and batches").
use Rattle.std.specs.Prelude.{◌≡◌, ℕ, List, [], Some}
use Rattle.std.specs.declared.option.Option.{Option}
use Rattle.std.specs.declared.cmp.Ordering.{Ordering}
use Rattle.row_codec.specs.RowDifference.{Entry, Rises, value_at}

-- A batch says something of rows, its keys rise, and at each of its keys it says something else than what stands there: it puts
-- another value, or deletes a value that is there.
pub record SaysChanges {K : Type 0} (R : K → K → Ordering) (rows : List (K × List ℕ)) (batch : List (Entry K)) : Type 0 where
  pub some : batch ≡ [] → ⊥
  pub rises : Rises R batch
  pub changes : (q : K) (said : Option (List ℕ)) → value_at R batch q ≡ Some said → value_at R rows q ≡ said → ⊥
