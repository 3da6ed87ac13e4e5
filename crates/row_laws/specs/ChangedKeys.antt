-- The changes at the keys of one table that can differ between two states (docs/PROMISES.md, "Rows and batches").
use Rattle.std.specs.Prelude.{ℕ, Bool, not, List, map, filter}
use Rattle.std.specs.declared.cmp.Ordering.{Ordering}
use Rattle.std.specs.Ordering.{nat_cmp, ordering_then}
use Rattle.ctrl_model.specs.declared.formats.Format.{Format}
use Rattle.ctrl_model.specs.declared.kinds.Kind.{Kind}
use Rattle.ctrl_model.specs.declared.kinds.Relation.{Relation}
use Rattle.ctrl_model.specs.Numbered.{numbers}
use Rattle.ctrl_model.specs.State.{State}
pub use Rattle.record_tables.specs.Climbing.{Climbs}
use Rattle.row_codec.specs.declared.changes.Change.{Change}
use Rattle.row_codec.specs.RowKeys.{kind_number, key_in}
use Rattle.row_codec.specs.RowKeys.RowTable.{Next, Setting, Records, Counts, Intercepts, Serial}
use Rattle.row_codec.specs.CoveredTables.{change_at}

-- The order of pairs: by the first number, then by the second.
abbrev pub pair_cmp : ℕ × ℕ → ℕ × ℕ → Ordering
pair_cmp p q = ordering_then (nat_cmp p.0 q.0) (nat_cmp p.1 q.1)

-- The changes of the next numbers of some kinds.
abbrev pub next_changes : Format → State → State → List Kind → List Change
next_changes format s t ks = map (λ k. change_at format s t (key_in Next (kind_number k) 0)) ks

-- The change of the setting.
abbrev pub setting_change : Format → State → State → Change
setting_change format s t = change_at format s t (key_in Setting 0 0)

-- The changes of the records of a kind at some numbers.
abbrev pub record_changes : Format → Kind → State → State → List ℕ → List Change
record_changes format k s t ns = map (λ n. change_at format s t (key_in (Records k) n 0)) ns

-- The changes of the counts of a relation at some pairs.
abbrev pub count_changes : Format → Relation → State → State → List (ℕ × ℕ) → List Change
count_changes format r s t pairs = map (λ p. change_at format s t (key_in (Counts r) p.0 p.1)) pairs

-- The changes of the intercepts of some services.
abbrev pub intercept_changes : Format → State → State → List ℕ → List Change
intercept_changes format s t ns = map (λ n. change_at format s t (key_in Intercepts n 0)) ns

-- The change of the serial.
abbrev pub serial_change : Format → State → State → Change
serial_change format s t = change_at format s t (key_in Serial 0 0)

-- The numbers of the records that a test does not pass, so those that go where the others are kept.
abbrev pub gone : {R : Type 0} → (ℕ × R → Bool) → List (ℕ × R) → List ℕ
gone keeps rows = numbers (filter (λ row. not (keeps row)) rows)
