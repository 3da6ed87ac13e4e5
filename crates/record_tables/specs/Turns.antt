-- What one change makes of a table and of its numbers, and once some are gone (docs/PROMISES.md, "The tables of records").
use Rattle.std.specs.Prelude.{ℕ, not, ◌==◌, cond, List, [], ◌∷◌, ◌++◌, filter, None, Some}
use Rattle.std.specs.declared.option.Option.{Option}
use Rattle.std.specs.Option.{option_map}
use Rattle.ctrl_model.specs.Numbered.{Table, with_new, with_edit, with_removed}
use Rattle.ctrl_model.specs.Walks.{is_among}
use Rattle.record_tables.specs.declared.turns.Turn.{Turn}
use Rattle.record_tables.specs.declared.turns.Turn.TheVariants.{Adds, Sets, Removes, Keeps}

-- The table after a turn, which may set a record anew.
abbrev pub turned_table : {R : Type 0} → (R → R) → Turn R → Table R → Table R
turned_table set (Adds r) t = with_new r t
turned_table set (Sets n) t = with_edit n set t
turned_table set (Removes n) t = with_removed n t
turned_table set Keeps t = t

-- The record at a number after a turn, by the next number and the record that stands there.
abbrev pub record_turned : {R : Type 0} → (R → R) → Turn R → ℕ → ℕ → Option R → Option R
record_turned set (Adds r) next n o = cond (next == n) (Some r) o
record_turned set (Sets m) next n o = option_map (λ r. cond (n == m) (set r) r) o
record_turned set (Removes m) next n o = cond (m == n) None o
record_turned set Keeps next n o = o

-- The number of the record that a turn adds, sets or removes, by the next number.
abbrev pub turned_number : {R : Type 0} → Turn R → ℕ → Option ℕ
turned_number (Adds r) next = Some next
turned_number (Sets n) next = Some n
turned_number (Removes n) next = Some n
turned_number Keeps next = None

-- The numbers after a turn, of which the next one is the one that comes.
abbrev pub turned : {R : Type 0} → Turn R → ℕ → List ℕ → List ℕ
turned (Adds r) next ns = ns ++ next ∷ []
turned (Sets n) next ns = ns
turned (Removes n) next ns = filter (λ m. not (m == n)) ns
turned Keeps next ns = ns

-- The numbers that are not gone.
abbrev pub left_of : List ℕ → List ℕ → List ℕ
left_of gone ns = filter (λ n. not (is_among n gone)) ns
