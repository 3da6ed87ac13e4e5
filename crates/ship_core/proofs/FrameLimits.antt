-- What is shipped can be spelled, and is read again.
use Rattle.std.proofs.Common.{◌≡◌, ℕ, zero, suc, ◌+◌, ◌%◌, ◌^◌, ◌<◌, List, [], ◌∷◌, filter, refl, sym, subst, append-nil, arith}
use Rattle.std.specs.List.{AllByRecursion}
use Rattle.ctrl_model.specs.declared.formats.Format.{Format}
use Rattle.ctrl_model.specs.declared.formats.Format.TheVariants.{One, Two}
use Rattle.channel_frame.specs.declared.frames.Frame.{Frame}
use Rattle.channel_frame.specs.FrameSpelling.{IsFrame}
use Rattle.channel_frame.specs.StreamReading.{Reads, frames_of as frames_in, rest_of}
use Rattle.channel_frame.proofs.ReadingLaws.{has_one_reading}
use Rattle.row_laws.proofs.RisingRows.{All-append}
use Rattle.slot_reading.specs.BatchRows.{ByteRows}
use Rattle.ship_frames.specs.declared.shipments.Shipment.{Shipment}
use Rattle.ship_frames.specs.declared.shipments.Sort.{Sort}
use Rattle.ship_frames.specs.declared.shipments.Sort.TheVariants.{Whole, Next}
use Rattle.ship_frames.specs.Pieces.{type_of, piece_count, piece_at, piece_headers, piece_frame, frames_from, frames_of, frames_of_all, written}
use Rattle.ship_core.specs.Shipping.{old_shipments, shipments, is_from, chosen, shipped, AreShippedOf}
use Rattle.ship_frames.proofs.FrameParts.{frame_keeps}

-- ---- frames

-- The content type of a sort fits four bytes.
type_fits : (sort : Sort) → type_of sort < 2 ^ 32
type_fits Whole = omega arith
type_fits Next = omega arith

-- The frame of a piece can be spelled.
piece_fits : (place : ℕ) (s : Shipment) (number : ℕ) → IsFrame (piece_frame place s number)
piece_fits place s number =
    let keeps = frame_keeps (type_of s.sort) (place % 2 ^ 32) s.serial number (piece_count s.bytes) (piece_headers s number) (piece_at number s.bytes) s.bytes refl refl in
    record { content = type_fits s.sort; sequence = omega arith; keys = (omega arith, (omega arith, (omega arith, tt))); headers_len = keeps.headers_len; body_len = keeps.body_len }

pieces_fit : (place : ℕ) (s : Shipment) (number left : ℕ) → AllByRecursion IsFrame (frames_from place s number left)
pieces_fit place s number zero = tt
pieces_fit place s number (suc left) = (piece_fits place s number, pieces_fit (place + 1) s (number + 1) left)

-- And so can those of some batches.
all_fit : (place : ℕ) (list : List Shipment) → AllByRecursion IsFrame (frames_of_all place list)
all_fit place [] = tt
all_fit place (s ∷ list) =
    All-append IsFrame (frames_of place s) (frames_of_all (place + piece_count s.bytes) list) (pieces_fit place s 0 (piece_count s.bytes)) (all_fit (place + piece_count s.bytes) list)

-- ---- what is shipped

-- The frames that are shipped can be spelled.
pub shipped_fit : (from : ℕ) (format : Format) (batches : List (List ℕ)) → AllByRecursion IsFrame (shipped from format batches)
shipped_fit from format batches = all_fit 0 (chosen from (shipments format batches))

-- And so can those of a folder that was found to have some rows.
pub found_fit : (from : ℕ) (format : Format) (rows : ByteRows) (frames : List Frame) → AreShippedOf from format rows frames → AllByRecursion IsFrame frames
found_fit from One rows frames are = subst (AllByRecursion IsFrame) (sym are) (all_fit 0 (chosen from (old_shipments rows)))
found_fit from Two rows frames are = subst (AllByRecursion IsFrame) (sym are.2) (all_fit 0 (filter (is_from from) (shipments Two are.0)))

-- Frames that can be spelled are read of their bytes.
pub read_again : (frames : List Frame) → AllByRecursion IsFrame frames → Reads (written frames) frames []
read_again frames fit = record { text = sym (append-nil (written frames)); each = fit; tail = λ f more fits e. cc }

pub read_alone : (frames : List Frame) → AllByRecursion IsFrame frames → (frames_in (written frames) ≡ frames) × (rest_of (written frames) ≡ [])
read_alone frames fit = has_one_reading (written frames) frames [] tt (read_again frames fit)
