-- The batches for which a folder stands while its machine goes on (docs/RULES.md, "The controller with a folder").
use Rattle.std.specs.Prelude.{◌≡◌, ◌⊎◌, ℕ, ◌<◌, ◌==◌, if◌then◌else◌, List, [], ◌∷◌, ◌++◌, None, Some}
use Rattle.std.specs.declared.option.Option.{Option}
use Rattle.ziti_outside.specs.Images.{Image}
use Rattle.slot_files.specs.FolderImage.{Stands}
use Rattle.row_codec.specs.Batches.{batch_between, batch_bytes}
use Rattle.row_store.specs.AddedBatches.{AddsBatch}
use Rattle.row_store.specs.RewrittenStores.{compacted}
use Rattle.row_store.specs.OpenedStates.{byte_rows_of}
use Rattle.ctrl_core.specs.KeptFormat.{kept_format}
use Rattle.ctrl_keep.specs.KeptMachine.{Place, Machine}

-- The place of the gate at which a machine's journal goes on. Without a folder there is none, and this is 0.
abbrev pub end_at : Option Place → ℕ
end_at None = 0
end_at (Some place) = place.end

-- The length of its mark.
abbrev pub mark_at : Option Place → ℕ
mark_at None = 0
mark_at (Some place) = place.mark

-- For which batches a folder of the kept format stands behind one step of its machine, that stood for these before it: where the place stays, for these; where
-- the gate alone has moved on, for these and behind them the one batch of the difference between the rows of the two states; and where the
-- mark has another length, the folder was compacted, and stands for the one batch of all rows, or for none where there are no rows.
abbrev pub batches_next : Machine → Machine → List (List ℕ) → List (List ℕ)
batches_next old new batches =
    if mark_at new.place == mark_at old.place then
    if end_at new.place == end_at old.place then batches else batches ++ batch_bytes (batch_between kept_format old.state new.state) ∷ []
    else compacted (byte_rows_of kept_format new.state)

-- The second machine's journal goes on behind that of the first: its mark is longer, or as long, and its gate stands further on.
abbrev pub GoesOnBehind : Machine → Machine → Type 0
GoesOnBehind old new = (mark_at old.place < mark_at new.place) ⊎ ((mark_at new.place ≡ mark_at old.place) × (end_at old.place < end_at new.place))

-- A folder follows its machine through one step: the machine is as it was, and then every part reads as before, or its journal goes on behind;
-- and for whatever batches the folder stood, it stands for those behind the step. Where its gate alone has moved on, the folder has in bytes
-- what the one batch of the difference adds, and no other change.
pub record Follows (old new : Machine) (before now : Image) : Type 0 where
  pub on : (new ≡ old) ⊎ GoesOnBehind old new
  pub still : new ≡ old → now ≡ before
  pub stands : (batches : List (List ℕ)) → Stands kept_format before batches → Stands kept_format now (batches_next old new batches)
  pub adds : mark_at new.place ≡ mark_at old.place → end_at old.place < end_at new.place → AddsBatch (batch_between kept_format old.state new.state) before now
