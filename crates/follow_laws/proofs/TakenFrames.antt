-- What becomes of any frames of a history.
use Rattle.std.proofs.Common.{◌≡◌, ℕ, ◌+◌, ◌/◌, ◌^◌, ◌<◌, ◌≤◌, List, [], ◌∷◌, length, None, Some, refl, sym, ap, ◌∙◌, subst, arith}
use Rattle.std.specs.declared.option.Option.{Option}
use Rattle.std.specs.Option.{option_map_or}
use Rattle.std.specs.List.{AllByRecursion}
use Rattle.ctrl_model.specs.State.{State}
use Rattle.ctrl_model.specs.ValidState.{ValidState}
use Rattle.channel_frame.specs.declared.frames.Frame.{Frame}
use Rattle.ship_frames.specs.declared.gathering.Gathered.{Gathered}
use Rattle.ship_frames.specs.declared.gathering.Gathered.TheVariants as gathered
use Rattle.ship_frames.specs.declared.shipments.Sort.{Sort}
use Rattle.ship_frames.specs.Pieces.{piece_count}
use Rattle.ship_frames.specs.PieceReading.{BatchPiece, most_pieces, piece_in, piece_with}
use Rattle.ship_frames.specs.GatheredPieces.{Parts, gather, IsPieceOf, TellsOf, IsFrontOf}
use Rattle.ship_frames.proofs.ReadingLaws.{piece_back}
use Rattle.ship_frames.proofs.GatheringLaws.{gathered_of}
use Rattle.row_judging.proofs.SizedRows.{batch_most}
use Rattle.row_store.specs.declared.bounds.StoreBounds.{StoreBounds}
use Rattle.follow_core.specs.declared.taken.Taken.{Taken}
use Rattle.follow_core.specs.declared.taken.Taken.TheVariants as taken
use Rattle.follow_core.specs.Following.{Copy, with_parts, gathered_so, follow, taken_all, copy_after}
use Rattle.follow_laws.specs.Histories.{IsHistory, state_at, state_before, between, history_of, shipment_of, IsFrameOf, IsAt, IsNotBefore, StandsFrom, IsOfHistory}
use Rattle.follow_laws.proofs.HistoryStates.{valid_at, before_valid, batch_from, serial_fits}
use Rattle.follow_laws.proofs.DecidedBatches.{Goes, stays, received_goes}

-- ---- one frame

-- A batch with a piece has bytes.
pub piece_some : (bytes : List ℕ) (number : ℕ) → number < piece_count bytes → 1 ≤ length bytes
piece_some bytes number within = of_len (length bytes) within
  where
    of_len : (len : ℕ) → number < (len + 1048575) / 1048576 → 1 ≤ len
    of_len len within = omega (arith, within)

-- A batch of a history has no more pieces than a batch may have.
few_pieces : (bytes : List ℕ) → length bytes ≤ 2 ^ 30 → piece_count bytes ≤ most_pieces
few_pieces bytes few = of_len (length bytes) few
  where
    of_len : (len : ℕ) → len ≤ 1073741824 → (len + 1048575) / 1048576 ≤ 1024
    of_len len few = omega (arith, few)

between_most : (before after : Option State) → ((s : State) → before ≡ Some s → ValidState s) → ((s : State) → after ≡ Some s → ValidState s) → length (between before after) ≤ 2 ^ 30
between_most (Some s) (Some t) before after = batch_most s t (before s refl) (after t refl)
between_most (Some s) None before after = omega arith
between_most None after before later = omega arith

pub shippable : (states : List State) (sort : Sort) (serial : ℕ) → IsHistory states → piece_count (history_of states sort serial) ≤ most_pieces
shippable states sort serial history =
    few_pieces (history_of states sort serial)
    (between_most (state_before states sort serial) (state_at states serial) (λ s e. before_valid states sort serial s history e) (λ s e. (valid_at states serial s history e).0))

-- A frame of a history is read as a piece of it.
pub record IsReadAs (states : List State) (frame : Frame) : Type 0 where
  pub piece : BatchPiece
  pub read : piece_in frame ≡ Some piece
  pub one : IsPieceOf (history_of states) piece

read_as : (states : List State) (frame : Frame) → IsHistory states → IsFrameOf states frame → IsReadAs states frame
read_as states frame history of =
    let bytes = history_of states of.sort of.serial in
    let batch = batch_from states of.sort of.serial history (piece_some bytes of.number of.within) in
    let fits = serial_fits states of.serial batch.after history batch.there in
    record {
      piece = piece_with (shipment_of states of.sort of.serial) of.number;
      read = ap piece_in of.same ∙ piece_back of.place (shipment_of states of.sort of.serial) of.number fits (shippable states of.sort of.serial history) of.within;
      one = record { within = of.within; same = refl };
    }

-- What becomes of a piece, by what was gathered.
gathered_goes : (states : List State) (at : Option ℕ) (bounds : StoreBounds) (g : Gathered) (c : Copy) → IsHistory states → IsAt states at c → TellsOf (history_of states) g
    → Goes states at c.parts (gathered_so bounds g c)
gathered_goes states at bounds gathered.Skipped c history here tells = stays states at c taken.Skipped here tt
gathered_goes states at bounds gathered.Waits c history here tells = stays states at c taken.Piece here tt
gathered_goes states at bounds (gathered.Whole s) c history here tells = received_goes states at bounds s c history here tells.same tells.some

-- A frame that is read as a piece.
pub followed : (bounds : StoreBounds) (frame : Frame) (c : Copy) (p : BatchPiece) → piece_in frame ≡ Some p
    → follow bounds frame c ≡ gathered_so bounds (gather c.parts p).0 (with_parts c (gather c.parts p).1)
followed bounds frame c p read =
    ap (λ (o : Option BatchPiece). option_map_or (λ q. gathered_so bounds (gather c.parts q).0 (with_parts c (gather c.parts q).1)) o (taken.BadShip, c)) read

-- A frame of a history was answered as such, and the copy and what is in parts are of the history.
pub record FrameGoes (states : List State) (at : Option ℕ) (x : Taken × Copy) : Type 0 where
  pub fine : IsOfHistory x.0
  pub later : Option ℕ
  pub further : IsNotBefore at later
  pub there : IsAt states later x.1
  pub front : IsFrontOf (history_of states) x.1.parts

-- Where a copy stands is the same whatever is in parts.
other_parts : (states : List State) (at : Option ℕ) (c : Copy) (parts : Option Parts) → IsAt states at c → IsAt states at (with_parts c parts)
other_parts states None c parts here = here
other_parts states (Some serial) c parts here = here

frame_goes : (states : List State) (at : Option ℕ) (bounds : StoreBounds) (frame : Frame) (c : Copy) → IsHistory states → IsAt states at c
    → IsFrontOf (history_of states) c.parts → IsFrameOf states frame → FrameGoes states at (follow bounds frame c)
frame_goes states at bounds frame c history here front of =
    let read = read_as states frame history of in
    let own = gathered_of (history_of states) c.parts read.piece front read.one in
    let goes = gathered_goes states at bounds (gather c.parts read.piece).0 (with_parts c (gather c.parts read.piece).1) history
    (other_parts states at c (gather c.parts read.piece).1 here) own.0 in
    subst (FrameGoes states at) (sym (followed bounds frame c read.piece read.read)) (record {
      fine = goes.fine;
      later = goes.later;
      further = goes.further;
      there = goes.there;
      front = subst (IsFrontOf (history_of states)) (sym goes.parts_stay) own.1;
    })

-- ---- any frames

not_before_then : (a b c : Option ℕ) → IsNotBefore a b → IsNotBefore b c → IsNotBefore a c
not_before_then None b c e f = tt
not_before_then (Some m) None c e f = absurd e
not_before_then (Some m) (Some n) None e f = absurd f
not_before_then (Some m) (Some n) (Some k) e f = omega (arith, e, f)

pub frames_go : (states : List State) (at : Option ℕ) (bounds : StoreBounds) (frames : List Frame) (c : Copy) → IsHistory states → IsAt states at c
    → IsFrontOf (history_of states) c.parts → AllByRecursion (IsFrameOf states) frames
    → AllByRecursion IsOfHistory (taken_all bounds frames c) × StandsFrom states at (copy_after bounds frames c) × IsFrontOf (history_of states) (copy_after bounds frames c).parts
frames_go states None bounds [] c history here front are = (tt, record { later = None; further = tt; at = here }, front)
frames_go states (Some serial) bounds [] c history here front are = (tt, record { later = Some serial; further = omega arith; at = here }, front)
frames_go states at bounds (frame ∷ frames) c history here front are =
    let one = frame_goes states at bounds frame c history here front are.0 in
    let rest = frames_go states one.later bounds frames (follow bounds frame c).1 history one.there one.front are.1 in
    ((one.fine, rest.0), record { later = rest.1.later; further = not_before_then at one.later rest.1.later one.further rest.1.further; at = rest.1.at }, rest.2)
