-- The rows of a state under their keys, made of rows that were read, and read again.
use Rattle.std.proofs.Common.{◌≡◌, ℕ, inl, List, [], ◌∷◌, map, refl, sym, ◌∙◌, ap, subst}
use Rattle.ctrl_model.specs.declared.formats.Format.{Format}
use Rattle.ctrl_model.specs.declared.formats.Format.TheVariants.{Two}
use Rattle.ctrl_model.specs.State.{State, start}
use Rattle.row_codec.specs.declared.changes.Op.{Op}
use Rattle.row_codec.specs.declared.changes.Op.TheVariants.{Put}
use Rattle.row_codec.specs.declared.rows.Row.{Row}
use Rattle.row_codec.specs.Batches.{batch_between, spelled_rows}
use Rattle.row_codec.specs.RowKeys.{Key, key_bytes}
use Rattle.row_codec.specs.StateRows.{Rows, rows_of}
use Rattle.row_laws.proofs.StateBatches.{batch_from_start, batch_leads}
use Rattle.row_loading.specs.LoadedRows.{Loads, put_of}
use Rattle.row_loading.specs.RefusedRows.{AreUnread}
use Rattle.row_loading.proofs.LoadedStates.{loads-listed}
use Rattle.row_loading.proofs.RefusedStates.{refused-of_none}
use Rattle.slot_reading.specs.BatchRows.{ByteRows, puts, rows_after}
use Rattle.state_building.proofs.BuiltRows.{start-valid}
use Rattle.state_building.specs.declared.flaws.Flaw.{Flaw}
use Rattle.change_lines.specs.KeptRows.{AreKeptOf}
use Rattle.change_lines.specs.RowChanges.{AreRowsOf}
use Rattle.change_lines.proofs.RowStates.{rows_are}

-- ---- rows that were read

-- whatever format they were read of, they are those of the second one
pub in_two : (f : Format) (s : State) (rows : List Row) → AreRowsOf f s rows → AreRowsOf Two s rows
in_two f s rows are = record {
  valid = are.valid;
  has = tt;
  loads = subst (λ (xs : List Row). Loads Two (batch_between Two start s) xs) (rows_are f s rows are) (loads-listed Two (batch_between Two start s) s are.valid refl);
}

-- where none were they are put
pub kept_of : (f : Format) (s : State) (rows : List Row) (batch : List Op) (later : ByteRows) → AreRowsOf f s rows → batch ≡ map (put_of Two) rows → later ≡ rows_after [] batch
    → AreKeptOf s later
kept_of f s rows batch later are is after = record {
  valid = are.valid;
  rows_are = after ∙ ap (rows_after []) (is ∙ sym (in_two f s rows are).loads.spelled) ∙ batch_leads Two start s start-valid are.valid;
}

-- ---- rows that are kept

puts-spelled : (rows : Rows) → puts (spelled_rows rows) ≡ map (λ (x : Key × List ℕ). Put (key_bytes x.0) x.1) rows
puts-spelled [] = refl
puts-spelled (x ∷ xs) = ap (λ (ops : List Op). Put (key_bytes x.0) x.1 ∷ ops) (puts-spelled xs)

-- the changes that put them lead from the start to their state
leading : (s : State) (kept : ByteRows) (batch ops : List Op) → AreKeptOf s kept → batch ≡ puts kept → ops ≡ batch → ops ≡ batch_between Two start s
leading s kept batch ops are is same = same ∙ is ∙ ap puts are.rows_are ∙ puts-spelled (rows_of Two s) ∙ sym (batch_from_start Two s)

-- they are read
pub read_again : (s : State) (kept : ByteRows) (batch ops : List Op) (rows : List Row) → AreKeptOf s kept → batch ≡ puts kept → ops ≡ batch → Loads Two ops rows → AreRowsOf Two s rows
read_again s kept batch ops rows are is same loads = record {
  valid = are.valid;
  has = tt;
  loads = subst (λ (os : List Op). Loads Two os rows) (leading s kept batch ops are is same) loads;
}

-- every one of them
pub all_read : (s : State) (kept : ByteRows) (batch ops : List Op) (place : ℕ) (flaw : Flaw) → AreKeptOf s kept → batch ≡ puts kept → ops ≡ batch → AreUnread Two ops place flaw → ⊥
all_read s kept batch ops place flaw are is same unread = refused-of_none Two ops place flaw (inl unread) s are.valid tt (leading s kept batch ops are is same)
