-- What keeping a batch of operations makes of a folder: of the batches that it stands for, and of its bytes (docs/FORMATS.md, "Batches").
use Rattle.std.specs.Prelude.{◌≡◌, ℕ, List, [], ◌∷◌, ◌++◌, length}
use Rattle.ziti_outside.specs.declared.desk.Part.TheVariants.{Mark}
use Rattle.ziti_outside.specs.Images.{Image, Else}
use Rattle.ctrl_model.specs.declared.formats.Format.{Format}
use Rattle.journal_core.specs.Slots.{added, text_of, slot_end}
use Rattle.slot_files.specs.FolderImage.{slot_of, Stands}
use Rattle.row_codec.specs.declared.changes.Op.{Op}
use Rattle.row_codec.specs.Batches.{batch_bytes}

-- For whatever batches the first image stands, the second stands for these, in the same format, and behind them the one batch of these
-- operations. In bytes: the
-- slot that stands has the batch's record added at its closed gate, and nothing else of it is changed; the other slot and the mark are the same.
pub record AddsBatch (ops : List Op) (old new : Image) : Type 0 where
  pub behind : (format : Format) (batches : List (List ℕ)) → Stands format old batches → Stands format new (batches ++ batch_bytes ops ∷ [])
  pub slot : (format : Format) (batches : List (List ℕ)) → Stands format old batches
      → new (slot_of (length (old Mark))) ≡ added (slot_end batches) (text_of (batch_bytes ops)) (old (slot_of (length (old Mark))))
  pub others : Else (slot_of (length (old Mark))) old new
