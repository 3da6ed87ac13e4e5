-- Laws of the table of circuits: whether there is room, and what one more circuit and a removal keep.
use Rattle.std.proofs.Common.{◌≡◌, ℕ, ◌≤◌, ◌<◌, ◌&&◌, false, not, nat_lt, List, length, arith}
use Rattle.std.proofs.lemmas.Bool.Decides.{nat_tests}
use Rattle.ctrl_model.specs.Numbered.{Table, with_new, with_removed, without}
use Rattle.ctrl_model.specs.State.{Circuit}
use Rattle.ctrl_model.proofs.NumberedLaws.{length-with_last, length-filter-le}
use Rattle.record_tables.specs.AfterChange.{without_numbers}
use Rattle.circuits.specs.CircuitTables.{is_full}

pub has_room : (t : Table Circuit) → is_full (record { circuits = t }) ≡ false → (length t.rows < 16384) × (t.next < 4294967295)
has_room t e = at (length t.rows) t.next e
  where
    at : (n next : ℕ) → not (nat_lt n 16384 && nat_lt next 4294967295) ≡ false → (n < 16384) × (next < 4294967295)
    at n next e = grind (arith, nat_tests)

pub few_new : (c : Circuit) (t : Table Circuit) → is_full (record { circuits = t }) ≡ false → length (with_new c t).rows ≤ 16384
few_new c t room = let more = length-with_last t.rows t.next c in let left = (has_room t room).0 in omega arith

pub few_removed : (n : ℕ) (t : Table Circuit) → length t.rows ≤ 16384 → length (with_removed n t).rows ≤ 16384
few_removed n t few = let fewer : length (without t.rows n) ≤ length t.rows = length-filter-le _ _ in omega arith

pub few_gone : (gone : List ℕ) (t : Table Circuit) → length t.rows ≤ 16384 → length (without_numbers gone t).rows ≤ 16384
few_gone gone t few = let fewer : length (without_numbers gone t).rows ≤ length t.rows = length-filter-le _ _ in omega arith
