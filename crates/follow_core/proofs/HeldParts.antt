-- How many bytes a batch has that is gathered of pieces.
use Rattle.std.proofs.Common.{◌≡◌, ℕ, ◌+◌, ◌*◌, ◌^◌, ◌<◌, ◌≤◌, ◌==◌, Bool, true, false, cond, List, [], ◌++◌, length, Option, None, Some, refl, sym, ap, subst, length-append, arith}
use Rattle.channel_frame.specs.declared.frames.Frame.{Frame}
use Rattle.ship_frames.specs.declared.gathering.Gathered.{Gathered}
use Rattle.ship_frames.specs.declared.gathering.Gathered.TheVariants as gathered
use Rattle.ship_frames.specs.declared.shipments.Shipment.{Shipment}
use Rattle.ship_frames.specs.Pieces.{piece_size}
use Rattle.ship_frames.specs.PieceReading.{BatchPiece, most_pieces, is_piece, piece_in}
use Rattle.ship_frames.specs.GatheredPieces.{Parts, begun, goes_on, with_piece, batch_of, told, gather_more, gather, IsHeld, IsHeldOf}
use Rattle.ship_frames.proofs.GatheringLaws.{piece_parts, gathered_held}

-- The bytes of a batch that is whole.
abbrev bytes_of : Gathered → List ℕ
bytes_of gathered.Skipped = []
bytes_of gathered.Waits = []
bytes_of (gathered.Whole s) = s.bytes

abbrev IsShort : Gathered → Type 0
IsShort g = length (bytes_of g) < 4294967296

told_short : (q : Parts) → length q.bytes < 4294967296 → IsShort (told q).0
told_short q short = by (q.came == q.count)
  where
    by : (b : Bool) → IsShort (cond {A = Gathered × Option Parts} b (gathered.Whole (batch_of q), None) (gathered.Waits, Some q)).0
    by true = short
    by false = omega arith

more_short : (parts : Option Parts) (p : BatchPiece) → IsHeldOf parts → is_piece p ≡ true → IsShort (gather_more parts p).0
more_short None p held is = omega arith
more_short (Some parts) p held is = by (goes_on parts p)
  where
    long : length (with_piece parts p).bytes < 4294967296
    long =
        let sum = length-append parts.bytes p.body in
        let of_piece = piece_parts p is in
        let body = of_piece.2 in
        let count = held.count in
        let came = held.came in
        let bytes = held.bytes in
        omega (arith, sum, body, count, came, bytes)

    by : (b : Bool) → IsShort (cond {A = Gathered × Option Parts} b (told (with_piece parts p)) (gathered.Skipped, Some parts)).0
    by true = told_short (with_piece parts p) long
    by false = omega arith

gathered_short : (parts : Option Parts) (p : BatchPiece) → IsHeldOf parts → is_piece p ≡ true → IsShort (gather parts p).0
gathered_short parts p held is = by (p.number == 0)
  where
    first : length p.body < 4294967296
    first = let body = (piece_parts p is).2 in omega (arith, body)

    by : (b : Bool) → IsShort (cond {A = Gathered × Option Parts} b (told (begun p)) (gather_more parts p)).0
    by true = told_short (begun p) first
    by false = more_short parts p held is

-- A batch that is gathered has fewer bytes than four bytes count.
pub whole_short : (parts : Option Parts) (p : BatchPiece) (s : Shipment) → IsHeldOf parts → is_piece p ≡ true → (gather parts p).0 ≡ gathered.Whole s → length s.bytes < 2 ^ 32
whole_short parts p s held is e = subst IsShort e (gathered_short parts p held is)

-- And what is in parts then is held.
pub still_held : (parts later : Option Parts) (p : BatchPiece) (g : Gathered) → IsHeldOf parts → is_piece p ≡ true → (g, later) ≡ gather parts p → IsHeldOf later
still_held parts later p g held is e = subst (λ (x : Gathered × Option Parts). IsHeldOf x.1) (sym e) (gathered_held parts p held is)
