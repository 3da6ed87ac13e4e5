-- The steps by which a follower takes a batch. Only private contracts and proofs cite these.
use Rattle.std.specs.Prelude.{◌≡◌, ◌⊎◌, ⊤, ℕ, ◌+◌, ◌<◌, ◌≤◌, ◌==◌, ◌&&◌, ◌||◌, not, nat_lt, nat_le, Bool, true, false, cond, List, [], ◌∷◌, ◌++◌, None, Some}
use Rattle.std.specs.declared.option.Option.{Option}
use Rattle.ctrl_model.specs.State.{State}
use Rattle.ctrl_model.specs.ValidState.{ValidState}
use Rattle.ship_frames.specs.declared.shipments.Shipment.{Shipment}
use Rattle.ship_frames.specs.declared.shipments.Sort.{Sort}
use Rattle.row_codec.specs.declared.changes.Op.{Op}
use Rattle.row_codec.specs.Batches.{batch_bytes}
use Rattle.slot_reading.specs.BatchRows.{ByteRows, rows_after}
use Rattle.row_store.specs.StoredRows.{Stored, size_with, with_ops}
use Rattle.row_store.specs.RewrittenStores.{compacted_size, rewritten_of}
use Rattle.row_store.specs.OpenedStates.{byte_rows_of}
use Rattle.row_store.specs.Faults.{NothingDone}
use Rattle.ctrl_model.specs.declared.formats.Format.TheVariants as formats
use Rattle.follow_core.specs.declared.taken.Taken.{Taken}
use Rattle.follow_core.specs.declared.taken.Taken.TheVariants as takens
use Rattle.follow_core.specs.declared.faults.FollowFault.{FollowFault}
use Rattle.follow_core.specs.declared.faults.FollowFault.TheVariants.{Disk, Full, MarkFull, Damaged, Spent, NoMemory}
use Rattle.follow_core.specs.BatchBytes.{is_true_difference}
use Rattle.follow_core.specs.Following.{is_whole, is_no_whole, beside}
use Rattle.follow_core.specs.FollowedCopies.{serial_in_store}

-- Whether the slot of a store has a record.
abbrev pub is_begun : Stored → Bool
is_begun stored = not (stored.end == 8)

-- Whether a batch of a sort takes the place of records.
abbrev pub is_replaced : Sort → Stored → Bool
is_replaced sort stored = is_whole sort && is_begun stored

-- The rows of a store to which a batch is applied that is kept: none where it takes the place of records. Where a slot has no record the store has no rows.
abbrev pub rows_under : Sort → Stored → ByteRows
rows_under sort stored = cond (is_replaced sort stored) [] stored.rows

-- Whether a batch comes no later than the last one that the store keeps.
abbrev pub comes_late : Shipment → Stored → Bool
comes_late s stored = is_begun stored && nat_le s.serial (serial_in_store stored)

-- Whether it is a Next of rows that the store has not.
abbrev pub comes_early : Shipment → Stored → Bool
comes_early s stored = not (is_whole s.sort) && (not (is_begun stored) || nat_lt (serial_in_store stored + 1) s.serial)

-- Rows are all rows of a valid state of a serial.
pub record AreOfSerial (serial : ℕ) (rows : ByteRows) : Type 0 where
  pub state : State
  pub valid : ValidState state
  pub serial_is : state.serial ≡ serial
  pub rows_are : rows ≡ byte_rows_of formats.Two state

-- It is a true difference of the rows to which it is applied, and the rows after it are those of a valid state of its serial.
pub record LeadsOn (s : Shipment) (ops : List Op) (stored : Stored) : Type 0 where
  pub changes : is_true_difference (rows_under s.sort stored) ops ≡ true
  pub behind : AreOfSerial s.serial (rows_after (rows_under s.sort stored) ops)

-- What was decided of a batch of these operations before it is kept, where these are what may be kept of its sort and serial: it is bad; or it comes late,
-- and is told beside what is kept; or it comes early; or it leads nowhere; or it is to be kept, which is told by none.
abbrev pub AnswersSo : Shipment → List Op → Stored → (Option (List ℕ) → Type 0) → Option Taken → Type 0
AnswersSo s ops stored may answer =
    ((is_no_whole s ops ≡ true) × (answer ≡ Some takens.BadBatch))
    ⊎ (is_no_whole s ops ≡ false) × (((comes_late s stored ≡ true) × ((kept : Option (List ℕ)) × may kept × (answer ≡ Some (beside s kept))))
    ⊎ (comes_late s stored ≡ false) × (((comes_early s stored ≡ true) × (answer ≡ Some takens.Ahead))
    ⊎ (comes_early s stored ≡ false) × (((LeadsOn s ops stored → ⊥) × (answer ≡ Some takens.BadBatch))
    ⊎ (LeadsOn s ops stored × (answer ≡ None)))))

-- The bytes that the slot has with the batch.
abbrev pub size_behind : Sort → List Op → Stored → ℕ
size_behind sort ops stored = cond (is_replaced sort stored) (compacted_size (rows_after [] ops)) (size_with stored ops)

-- The store behind it.
abbrev pub stored_behind : Sort → List Op → Stored → Stored
stored_behind sort ops stored = cond (is_replaced sort stored) (rewritten_of formats.Two (rows_after [] ops) stored) (with_ops stored ops)

-- The records behind it.
abbrev pub kept_behind : Sort → List Op → Stored → List (List ℕ) → List (List ℕ)
kept_behind sort ops stored records = cond (is_replaced sort stored) (batch_bytes ops ∷ []) (records ++ batch_bytes ops ∷ [])

-- There is room for a batch of operations.
pub record HasRoomFor (sort : Sort) (ops : List Op) (stored : Stored) : Type 0 where
  pub slot : size_behind sort ops stored ≤ stored.bounds.slot
  pub mark : is_replaced sort stored ≡ true → stored.mark < stored.bounds.mark

-- What keeping a batch of operations made of a store: it has it, or there was no room and nothing was done.
abbrev pub KeepsSo : {D : Type 0} → Sort → List Op → (old new : Stored) (desk later : D) → Taken → Type 0
KeepsSo sort ops old new desk later takens.Took = HasRoomFor sort ops old × (new ≡ stored_behind sort ops old)
KeepsSo sort ops old new desk later takens.Full = (old.bounds.slot < size_behind sort ops old) × NothingDone old new desk later
KeepsSo sort ops old new desk later takens.MarkFull =
    (is_replaced sort old ≡ true) × (size_behind sort ops old ≤ old.bounds.slot) × (old.bounds.mark ≤ old.mark) × NothingDone old new desk later
KeepsSo sort ops old new desk later _ = ⊥

-- Why it was not kept though there was room: the disk failed, and the rows are as they were; or there was no memory, and nothing was done or the store is
-- spent.
abbrev pub KeepsNot : {D : Type 0} → Sort → List Op → (old new : Stored) (desk later : D) → FollowFault → Type 0
KeepsNot sort ops old new desk later Disk = HasRoomFor sort ops old × (new.spent ≡ true) × (new.rows ≡ old.rows)
KeepsNot sort ops old new desk later NoMemory = HasRoomFor sort ops old × (NothingDone old new desk later ⊎ (new.spent ≡ true))
KeepsNot sort ops old new desk later _ = ⊥
