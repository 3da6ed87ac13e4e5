-- How a table keeps records: by the bytes of their names, or by their numbers alone, and each way in the order of the numbers.
use Rattle.std.specs.Prelude.{◌≡◌, ℕ, ◌≤◌, List, map, slice_get, Some}
use Rattle.std.specs.declared.option.Option.{Option}
use Rattle.std.specs.Global.{Vec}
use Rattle.std.specs.List.{AllByRecursion}
use Rattle.std.specs.Str.{bytes_eq}
use Rattle.ctrl_model.specs.Numbered.{Table, first_where, Between}
use Rattle.ctrl_model.specs.Limits.{last_next}

-- An entry: the bytes of a name, and the record that has the name under its number.
abbrev pub Entry : Type 0 → Type 0
Entry R = Vec ℕ × (ℕ × R)

-- The records of some entries under their numbers.
abbrev pub numbered_records : {R : Type 0} → List (Entry R) → List (ℕ × R)
numbered_records es = map (λ e. e.1) es

-- The number of the record that has a name, if one has it.
abbrev pub number_named : {R : Type 0} → (R → List ℕ) → List (ℕ × R) → List ℕ → Option ℕ
number_named name_of rows name = first_where (λ r. bytes_eq (name_of r) name) rows

-- What a table keeps: the numbers ascend from 1 below the next one, which has an end.
pub record KeepsOrder {R : Type 0} (t : Table R) : Type 0 where
  pub first : 1 ≤ t.next
  pub last : t.next ≤ last_next
  pub ordered : Between 1 t.next t.rows

-- An entry stands at the bytes of its own name.
abbrev pub IsAtItsName : {R : Type 0} → (R → List ℕ) → Entry R → Type 0
IsAtItsName name_of e = e.0.items ≡ name_of e.1.1

-- Each entry stands at the bytes of its own name.
abbrev pub AreNamed : {R : Type 0} → (R → List ℕ) → List (Entry R) → Type 0
AreNamed name_of es = AllByRecursion (IsAtItsName name_of) es

-- The table of some records and a next number.
abbrev pub listed : {R : Type 0} → List (ℕ × R) → ℕ → Table R
listed rows next = record { rows = rows; next = next }

-- The table of some entries and a next number.
abbrev pub table_of_entries : {R : Type 0} → List (Entry R) → ℕ → Table R
table_of_entries es next = listed (numbered_records es) next

-- Entries as a table keeps them: their numbers ascend below the next one, and each stands at its own name.
pub record AreKept {R : Type 0} (name_of : R → List ℕ) (es : List (Entry R)) (next : ℕ) : Type 0 where
  pub order : KeepsOrder (table_of_entries es next)
  pub named : AreNamed name_of es

-- The numbers of some entries ascend.
abbrev pub AreOrdered : {R : Type 0} → List (Entry R) → Type 0
AreOrdered es = Between 1 last_next (numbered_records es)

-- The entry of a number stands at a place.
abbrev pub IsPlace : {R : Type 0} → ℕ → List (Entry R) → ℕ → Type 0
IsPlace {R} n es i = (e : Entry R) × (slice_get es i ≡ Some e) × (e.1.0 ≡ n)
