-- What contracts see of the controller as what answers a run: of the core alone, and of one whose state a folder keeps. Only private contracts
-- cite these.
use Rattle.std.specs.Prelude.{◌≡◌, ◌<◌, ⊤, true, false, not}
use Rattle.ziti_outside.specs.declared.desk.Part.TheVariants.{Mark}
use Rattle.row_store.specs.declared.bounds.StoreBounds.{StoreBounds}
use Rattle.row_store.specs.StoredRows.{IsStoreOf}
use Rattle.ctrl_core.specs.KeptState.{Cored}
use Rattle.ctrl_keep.specs.KeptController.{Controlled, HoldsRows}
use Rattle.serve_loop.specs.Answerers.{Needs, Serving}
use Rattle.ctrl_serve.specs.FrameAnswer.{no_bounds}

-- The core alone: it has no folder.
abbrev pub alone_serving : Cored → Serving StoreBounds
alone_serving core = record { bounds = no_bounds; slot = 0; folder = false; able = core.live }

-- It needs nothing.
abbrev pub no_needs : Needs
no_needs = record { holds = ⊤; reads = λ reads. ⊤; leaves = λ reads image. ⊤ }

-- A kept controller: its bounds, with a folder, unless it is spent.
abbrev pub kept_serving : Controlled → Serving StoreBounds
kept_serving k = record { bounds = k.stored.bounds; slot = k.stored.bounds.slot; folder = true; able = not k.spent }

-- It needs the rows of its state, and that the folder reads as its store stands, with nothing pending in the mark and the slot that stands.
abbrev pub kept_needs : Controlled → Needs
kept_needs k = record {
  holds = HoldsRows k;
  reads = λ reads. (0 < k.stored.mark) × IsStoreOf reads k.stored;
  leaves = λ reads image. (image Mark ≡ reads Mark) × (image k.stored.part ≡ reads k.stored.part);
}
