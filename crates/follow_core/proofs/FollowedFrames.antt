-- What a follower makes of a frame, by the piece that it is.
use Rattle.std.proofs.Common.{◌≡◌, false, ℕ, List, Option, None, Some, refl, sym, ap, ◌∙◌, subst}
use Rattle.std.specs.Option.{option_map_or}
use Rattle.ziti_outside.specs.Images.{Image}
use Rattle.ctrl_model.specs.declared.formats.Format.TheVariants.{Two}
use Rattle.channel_frame.specs.declared.frames.Frame.{Frame}
use Rattle.ship_frames.specs.declared.gathering.Gathered.{Gathered}
use Rattle.ship_frames.specs.declared.gathering.Gathered.TheVariants as gathered
use Rattle.ship_frames.specs.declared.shipments.Shipment.{Shipment}
use Rattle.ship_frames.specs.PieceReading.{BatchPiece, piece_in}
use Rattle.ship_frames.specs.GatheredPieces.{Parts, gather}
use Rattle.slot_files.specs.FolderImage.{Stands}
use Rattle.row_store.specs.declared.bounds.StoreBounds.{StoreBounds}
use Rattle.row_store.specs.StoredRows.{Stored}
use Rattle.follow_core.specs.declared.taken.Taken.{Taken}
use Rattle.follow_core.specs.declared.taken.Taken.TheVariants as takens
use Rattle.follow_core.specs.declared.faults.FollowFault.{FollowFault}
use Rattle.follow_core.specs.declared.faults.FollowFault.TheVariants.{Disk, Full, MarkFull, Damaged, Spent, NoMemory}
use Rattle.follow_core.specs.Faults.{ReceiveFails, TakeFails}
use Rattle.follow_core.specs.FollowedCopies.{Followed}
use Rattle.follow_core.specs.Following.{Copy, follow, gathered_so, with_parts, received}
use Rattle.follow_core.specs.TakenFrames.{copy_in, copy_behind_batch, copy_behind_taking, FollowsSo, IsReceived}

-- Following, by what came of gathering the piece.
followed_by : (bounds : StoreBounds) (frame : Frame) (records : List (List ℕ)) (stored : Stored) (parts later : Option Parts) (p : BatchPiece) (g : Gathered) → piece_in frame ≡ Some p
    → (g, later) ≡ gather parts p → follow bounds frame (copy_in records stored parts) ≡ gathered_so bounds g (copy_in records stored later)
followed_by bounds frame records stored parts later p g piece e =
    ap (λ (o : Option BatchPiece). option_map_or (λ q. gathered_so bounds (gather parts q).0 (copy_in records stored (gather parts q).1)) o (takens.BadShip, copy_in records stored parts)) piece
    ∙ ap (λ (x : Gathered × Option Parts). gathered_so bounds x.0 (copy_in records stored x.1)) (sym e)

followed_alone : (frame : Frame) (records : List (List ℕ)) (parts later : Option Parts) (stored : Stored) (reads : Image) (t : Taken)
    → follow stored.bounds frame (copy_in records stored parts) ≡ (t, copy_in records stored later) → Stands Two reads records → FollowsSo frame records parts later stored stored reads t
followed_alone frame records parts later stored reads t whole stands = record {
  answer = sym (ap (λ (x : Taken × Copy). x.0) whole);
  copy = subst (λ (x : Taken × Copy). copy_in x.1.records stored later ≡ x.1) (sym whole) refl;
  folder = subst (λ (x : Taken × Copy). Stands Two reads x.1.records) (sym whole) stands;
}

-- A frame that is no piece.
pub no_piece : (frame : Frame) (records : List (List ℕ)) (parts : Option Parts) (stored : Stored) (reads : Image) → piece_in frame ≡ None → Stands Two reads records
    → FollowsSo frame records parts parts stored stored reads takens.BadShip
no_piece frame records parts stored reads none stands =
    followed_alone frame records parts parts stored reads takens.BadShip
    (ap (λ (o : Option BatchPiece). option_map_or (λ q. gathered_so stored.bounds (gather parts q).0 (copy_in records stored (gather parts q).1)) o (takens.BadShip, copy_in records stored parts)) none)
    stands

-- A piece that is passed over, or that waits for others.
pub skipped_piece : (frame : Frame) (records : List (List ℕ)) (parts later : Option Parts) (stored : Stored) (reads : Image) (p : BatchPiece) → piece_in frame ≡ Some p
    → (gathered.Skipped, later) ≡ gather parts p → Stands Two reads records → FollowsSo frame records parts later stored stored reads takens.Skipped
skipped_piece frame records parts later stored reads p piece e stands =
    followed_alone frame records parts later stored reads takens.Skipped (followed_by stored.bounds frame records stored parts later p gathered.Skipped piece e) stands

pub waiting_piece : (frame : Frame) (records : List (List ℕ)) (parts later : Option Parts) (stored : Stored) (reads : Image) (p : BatchPiece) → piece_in frame ≡ Some p
    → (gathered.Waits, later) ≡ gather parts p → Stands Two reads records → FollowsSo frame records parts later stored stored reads takens.Piece
waiting_piece frame records parts later stored reads p piece e stands =
    followed_alone frame records parts later stored reads takens.Piece (followed_by stored.bounds frame records stored parts later p gathered.Waits piece e) stands

-- The last piece of a batch.
pub last_piece : (frame : Frame) (records : List (List ℕ)) (parts later : Option Parts) (old new : Stored) (reads : Image) (p : BatchPiece) (s : Shipment) (t : Taken) → piece_in frame ≡ Some p
    → (gathered.Whole s, later) ≡ gather parts p → IsReceived s records later old new reads t → FollowsSo frame records parts later old new reads t
last_piece frame records parts later old new reads p s t piece e r =
    let whole = followed_by old.bounds frame records old parts later p (gathered.Whole s) piece e in
    record {
      answer = r.answer ∙ sym (ap (λ (x : Taken × Copy). x.0) whole);
      copy = subst (λ (x : Taken × Copy). copy_in x.1.records new later ≡ x.1) (sym whole) r.copy;
      folder = subst (λ (x : Taken × Copy). Stands Two reads x.1.records) (sym whole) r.folder;
    }

pub last_rows : (frame : Frame) (records : List (List ℕ)) (parts later : Option Parts) (old : Stored) (p : BatchPiece) (s : Shipment) → piece_in frame ≡ Some p
    → (gathered.Whole s, later) ≡ gather parts p → (copy_behind_batch s records old later).rows ≡ (copy_behind_taking frame records parts old).rows
last_rows frame records parts later old p s piece e =
    sym (ap (λ (x : Taken × Copy). x.1.rows) (followed_by old.bounds frame records old parts later p (gathered.Whole s) piece e))

-- Why a frame was not taken, of a follower that is not spent.
pub take_failed : {D : Type 0} (old new : Followed) (desk later : D) (fault : FollowFault) → old.stored.spent ≡ false → ReceiveFails old.stored new.stored fault → TakeFails old new desk later fault
take_failed old new desk later Disk fresh f = (fresh, f)
take_failed old new desk later Full fresh f = f
take_failed old new desk later MarkFull fresh f = f
take_failed old new desk later (Damaged part at) fresh f = f
take_failed old new desk later Spent fresh f = absurd f
take_failed old new desk later NoMemory fresh f = (fresh, f)
