-- A state from its rows: the rows that a batch from the start puts, and what a folder opens to whose store has the rows of a state or of none.
use Rattle.std.proofs.Common.{◌≡◌, ℕ, zero, suc, List, [], ◌∷◌, length, map, inr, refl, arith, sym, ap, ◌∙◌, subst}
use Rattle.ziti_outside.specs.declared.desk.Part.{Part}
use Rattle.ziti_outside.specs.declared.desk.Part.TheVariants.{Mark}
use Rattle.ziti_outside.specs.Images.{Image}
use Rattle.ctrl_model.specs.declared.formats.Format.{Format}
use Rattle.ctrl_model.specs.declared.formats.Format.TheVariants.{One, Two}
use Rattle.ctrl_model.specs.State.{State, start}
use Rattle.ctrl_model.specs.declared.kinds.Kind.{Kind}
use Rattle.ctrl_model.specs.declared.kinds.Kind.TheVariants as kind
use Rattle.ctrl_model.specs.Tables.{table}
use Rattle.ctrl_model.specs.ValidState.{ValidState, ValidTable}
use Rattle.ctrl_model.proofs.TableLaws.{valid-none}
use Rattle.slot_files.specs.FolderImage.{slot_of}
use Rattle.slot_files.specs.OpenedSlots.{Opens}
use Rattle.row_codec.specs.declared.changes.Op.{Op}
use Rattle.row_codec.specs.declared.changes.Op.TheVariants.{Put, Delete}
use Rattle.row_codec.specs.RowKeys.{Key, key_bytes}
use Rattle.row_codec.specs.StateRows.{Rows, rows_of, HasRows}
use Rattle.row_codec.specs.Batches.{spelled_rows, batch_between}
use Rattle.row_laws.proofs.StateBatches.{batch_from_start}
use Rattle.slot_reading.specs.BatchRows.{ByteRows, Give, puts}
use Rattle.row_store.specs.OpenedRows.{OpensTo}
use Rattle.row_store.specs.OpenedStates.{byte_rows_of, OpensToState, HasNoState, IsOfNoState, IsStateless}
use Rattle.row_store.specs.StoredRows.{Stored, IsStoreOf}
use Rattle.row_store.proofs.OpeningLaws.{none_opens}

-- ---- rows as puts

-- The row that a put puts.
abbrev row_of : Op → List ℕ × List ℕ
row_of (Put key value) = (key, value)
row_of (Delete key) = (key, [])

rows_of_puts : (rows : ByteRows) → map row_of (puts rows) ≡ rows
rows_of_puts [] = refl
rows_of_puts (x ∷ xs) = ap (λ (l : ByteRows). x ∷ l) (rows_of_puts xs)

puts_of_keyed : (rows : Rows) → map (λ (x : Key × List ℕ). Put (key_bytes x.0) x.1) rows ≡ puts (spelled_rows rows)
puts_of_keyed [] = refl
puts_of_keyed (x ∷ xs) = ap (λ (l : List Op). Put (key_bytes x.0) x.1 ∷ l) (puts_of_keyed xs)

-- From the start, the batch puts exactly the rows of a state.
pub puts_of_state : (f : Format) (s : State) → batch_between f start s ≡ puts (byte_rows_of f s)
puts_of_state f s = batch_from_start f s ∙ puts_of_keyed (rows_of f s)

-- Rows whose puts are that batch are those of the state.
pub rows_are : (f : Format) (rows : ByteRows) (s : State) → puts rows ≡ batch_between f start s → rows ≡ byte_rows_of f s
rows_are f rows s e = sym (rows_of_puts rows) ∙ ap (map row_of) (e ∙ puts_of_state f s) ∙ rows_of_puts (byte_rows_of f s)

-- What opens to the rows of a state opens to the state.
pub opens_state : (f : Format) (image : Image) (s : State) (rows : ByteRows) → ValidState s → HasRows f s → rows ≡ byte_rows_of f s → OpensTo f image rows → OpensToState image s
opens_state f image s rows v has e p = record { format = f; has = has; valid = v; rows = subst (OpensTo f image) e p }

-- ---- why a folder opens to no state

-- The start is valid.
start_kinds : (k : Kind) → ValidTable k start (table k start)
start_kinds kind.Link = valid-none kind.Link start
start_kinds k = valid-none k start

pub start_valid : ValidState start
start_valid = record { kinds = start_kinds; setting = refl; attributes = refl; repaired = refl; ordered = tt; intercepts = refl; counted = omega arith }

-- The start has no rows, in any format, and it has rows in each.
pub start_rows : (f : Format) → byte_rows_of f start ≡ []
start_rows One = refl
start_rows Two = refl

pub start_has : (f : Format) → HasRows f start
start_has One = (refl, refl)
start_has Two = tt

-- The rows of a store are those of no state.
abbrev pub HasNone : Stored → Type 0
HasNone stored = (s : State) → ValidState s → HasRows stored.format s → stored.rows ≡ byte_rows_of stored.format s → ⊥

-- A folder whose store has the rows of no state opens to none.
pub store_without_state : (image : Image) (stored : Stored) (part : Part) (at : ℕ) → IsStoreOf image stored → part ≡ stored.part → at ≡ stored.end → HasNone stored → HasNoState image part at
store_without_state image stored part at here named place none = record {
  named = named ∙ here.part ∙ ap slot_of (sym here.mark);
  format = stored.format;
  batches = here.batches;
  stands = here.stands;
  rows = stored.rows;
  give = here.give;
  place = place ∙ here.end;
  none = none;
}

-- Over an empty mark a store has the rows of the start.
pub start_is_one : (f : Format) (rows : ByteRows) → rows ≡ [] → ((s : State) → ValidState s → HasRows f s → rows ≡ byte_rows_of f s → ⊥) → ⊥
start_is_one f rows e none = none start start_valid (start_has f) (e ∙ sym (start_rows f))

-- A folder that was opened, and whose rows are those of no state, opens to none.
pub no_state_by : (created : Format) (mark : ℕ) (old new : Image) (stored : Stored) (part : Part) (at : ℕ) → length (old Mark) ≡ mark → Opens created mark old new → OpensTo stored.format old stored.rows
    → IsStoreOf new stored → part ≡ stored.part → at ≡ stored.end → HasNone stored → HasNoState old part at
no_state_by created zero old new stored part at count opens p kept named place none =
    absurd (start_is_one stored.format stored.rows (none_opens stored.format old stored.rows count p) none)
no_state_by created (suc turn) old new stored part at count opens p kept named place none =
    store_without_state old stored part at (subst (λ (i : Image). IsStoreOf i stored) opens kept) named place none
