-- A store whose folder is of the first format, and is migrated, from what was told of the call below.
use Rattle.std.specs.Prelude.{⊤}
use Rattle.std.proofs.Common.{◌≡◌, ℕ, ◌⊎◌, inl, inr, Bool, true, false, Err, refl, sym, ap, ◌∙◌, subst}
use Rattle.std.specs.declared.result.Result.{Result}
use Rattle.ziti_outside.specs.Causes.{HasCause}
use Rattle.ziti_outside.specs.Images.{Image}
use Rattle.ziti_outside.specs.Views.{Seen}
use Rattle.ctrl_model.specs.declared.formats.Format.{Format}
use Rattle.ctrl_model.specs.declared.formats.Format.TheVariants.{One, Two}
use Rattle.ctrl_model.specs.State.{State}
use Rattle.slot_reading.specs.BatchRows.{AreNarrow}
use Rattle.row_store.specs.OpenedRows.{OpensTo}
use Rattle.row_store.specs.OpenedStates.{byte_rows_of}
use Rattle.row_store.specs.StoredRows.{Stored}
use Rattle.ctrl_core.specs.KeptFormat.{kept_format}
use Rattle.ctrl_core.specs.KeptState.{Cored}
use Rattle.ctrl_keep.specs.declared.faults.KeepFault.{KeepFault}
use Rattle.ctrl_keep.specs.declared.faults.KeepFault.TheVariants.{Disk, Full, MarkFull, Damaged, Spent, NoMemory}
use Rattle.ctrl_keep.specs.Faults.{disk_failure}
use Rattle.ctrl_keep.specs.KeptController.{Keeps}
use Rattle.ctrl_keep.specs.MigratedFolders.{MayMigrate}
use Rattle.ctrl_keep.specs.TurnedStores.{narrow_rows, HasState, HasRoomToTurn, IsLeft, IsTurned, IsQuietOrTurns}
use Rattle.ctrl_keep.proofs.NarrowRows.{narrow_rows_of}
use Rattle.ctrl_keep.proofs.OpenedFolders.{narrowed_are}

-- Its counts are narrow.
pub narrow_in : (stored : Stored) → stored.format ≡ One → (s : State) × HasState stored s → AreNarrow stored.rows
narrow_in stored first (s, has) =
    subst AreNarrow (sym (has.rows ∙ ap (λ (f : Format). byte_rows_of f s) first)) (narrow_rows_of s has.valid)

-- What opens to either rows of it, where its format is the first one.
pub first_either : (stored : Stored) (image : Image) → stored.format ≡ One → OpensTo One image stored.rows ⊎ OpensTo Two image (narrow_rows stored)
    → OpensTo stored.format image stored.rows ⊎ OpensTo kept_format image (narrow_rows stored)
first_either stored image first (inl p) = inl (subst (λ (f : Format). OpensTo f image stored.rows) (sym first) p)
first_either stored image first (inr p) = inr p

-- ---- the controller of its rows

-- It keeps the core's state.
pub turned_keeps : {D : Type 0} (tells : Bool) (seen : D → Seen) (core : Cored) (old new : Stored) (desk later : D) → core.live ≡ true → HasState old core.state → old.opened ≡ true → old.spent ≡ false
    → IsLeft old new desk later ⊎ IsTurned tells seen old new desk later → Keeps core new
turned_keeps tells seen core old new desk later live has opened fresh (inl left) = subst (Keeps core) (sym left.store) (record {
  live = live;
  valid = has.valid;
  opened = opened;
  unspent = fresh;
  format = left.format;
  rows = has.rows ∙ ap (λ (f : Format). byte_rows_of f core.state) left.format;
})
turned_keeps tells seen core old new desk later live has opened fresh (inr turned) = subst (Keeps core) (sym turned.store) (record {
  live = live;
  valid = has.valid;
  opened = opened;
  unspent = fresh;
  format = refl;
  rows = narrowed_are old core.state turned.had.first has;
})

-- Whether anything was done where the call ended with a fault, and where it did not.
may_err : (T U : Type 0) (fault : KeepFault) → MayMigrate {T = T} (Err fault) → MayMigrate {T = U} (Err fault)
may_err T U Disk may = tt
may_err T U Full may = may
may_err T U MarkFull may = may
may_err T U (Damaged part at) may = may
may_err T U Spent may = may
may_err T U NoMemory may = may

pub quiet_or_failed : (D T U : Type 0) (old : Stored) (s : State) (fault : KeepFault) (desk later : D) → HasState old s → IsQuietOrTurns {T = T} old (Err fault) desk later
    → (later ≡ desk) ⊎ ((x : State) × HasState old x × MayMigrate {T = U} (Err fault) × HasRoomToTurn old)
quiet_or_failed D T U old s fault desk later has (inl quiet) = inl quiet
quiet_or_failed D T U old s fault desk later has (inr (may, room)) = inr (s, has, may_err T U fault may, room)

pub quiet_or_turned : {D T : Type 0} (old : Stored) (s : State) (r : Result T KeepFault) (desk later : D) → HasState old s → IsQuietOrTurns old r desk later
    → (later ≡ desk) ⊎ ((x : State) × HasState old x × ⊤ × HasRoomToTurn old)
quiet_or_turned old s r desk later has (inl quiet) = inl quiet
quiet_or_turned old s r desk later has (inr (may, room)) = inr (s, has, tt, room)

-- The cause of a fault is that of it, whatever the call gives.
pub cause_as : (T U : Type 0) (fault : KeepFault) (before now : ℕ) → HasCause before now (disk_failure {T = T} (Err fault)) → HasCause before now (disk_failure {T = U} (Err fault))
cause_as T U Disk before now h = h
cause_as T U Full before now h = h
cause_as T U MarkFull before now h = h
cause_as T U (Damaged part at) before now h = h
cause_as T U Spent before now h = h
cause_as T U NoMemory before now h = h
