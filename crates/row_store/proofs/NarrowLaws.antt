-- Rows as they are written anew: their keys rise as before, they can be put, and none of their values is longer.
use Rattle.std.proofs.Common.{◌≡◌, ℕ, ◌^◌, ◌≤◌, ◌<◌, Bool, true, false, cond, List, [], ◌∷◌, length, map, take, refl, ap, arith}
use Rattle.std.proofs.lemmas.List.{length-take}
use Rattle.std.proofs.lemmas.Cmp.{nat_list_cmp_total}
use Rattle.row_codec.specs.NarrowedRows.{is_count_key, narrowed}
use Rattle.row_codec.specs.RowDifference.{Rises}
use Rattle.row_codec.specs.Batches.{bytes_cmp}
use Rattle.row_laws.proofs.RisingRows.{Rises-map}
use Rattle.row_store.specs.declared.writing.Writing.{Writing}
use Rattle.row_store.specs.declared.writing.Writing.TheVariants.{Same, Narrowed}
use Rattle.slot_reading.specs.BatchRows.{ByteRows, ArePuttable}
use Rattle.row_store.specs.WrittenRows.{value_as, rows_as, each_as}

as_same : (rows : ByteRows) → each_as Same rows ≡ rows
as_same [] = refl
as_same (x ∷ xs) = ap (λ (l : ByteRows). x ∷ l) (as_same xs)

as_narrowed : (rows : ByteRows) → each_as Narrowed rows ≡ map narrowed rows
as_narrowed [] = refl
as_narrowed (x ∷ xs) = ap (λ (l : ByteRows). narrowed x ∷ l) (as_narrowed xs)

-- Rows are written row by row.
pub as_each : (writing : Writing) (rows : ByteRows) → each_as writing rows ≡ rows_as writing rows
as_each Same rows = as_same rows
as_each Narrowed rows = as_narrowed rows

pub rises_as : (writing : Writing) (rows : ByteRows) → Rises bytes_cmp rows → Rises bytes_cmp (each_as writing rows)
rises_as writing rows r = Rises-map nat_list_cmp_total (λ (x : List ℕ × List ℕ). value_as writing x.0 x.1) rows r

-- No value is longer.
pub no_longer : (writing : Writing) (key value : List ℕ) → length (value_as writing key value) ≤ length value
no_longer Same key value = omega arith
no_longer Narrowed key value = by (is_count_key key)
  where
    by : (b : Bool) → length (cond b (take 2 value) value) ≤ length value
    by true = let l = length-take 2 value in omega (arith, l)
    by false = omega arith

pub puttable_as : (writing : Writing) (rows : ByteRows) → ArePuttable rows → ArePuttable (each_as writing rows)
puttable_as writing [] all = tt
puttable_as writing (x ∷ xs) all = ((all.0.0, short (length (value_as writing x.0 x.1)) (length x.1) (no_longer writing x.0 x.1) all.0.1), puttable_as writing xs all.1)
  where
    short : (n m : ℕ) → n ≤ m → m < 2 ^ 32 → n < 2 ^ 32
    short n m h k = omega arith
