-- The pieces of a batch are read back of their frames.
use Rattle.std.proofs.Common.{◌≡◌, ℕ, zero, suc, ◌+◌, ◌^◌, ◌<◌, ◌≤◌, ◌==◌, ◌&&◌, nat_lt, nat_le, Bool, true, false, cond, List, [], ◌∷◌, length, map, None, Some, refl, sym, ap, ◌∙◌, arith}
use Rattle.std.specs.declared.option.Option.{Option}
use Rattle.std.specs.Int.{w32, w64, to_le_bytes}
use Rattle.std.specs.Cmp.Derive.{both_true}
use Rattle.std.proofs.lemmas.Nat.{from_le_bytes-to_le_bytes_4, from_le_bytes-to_le_bytes_8}
use Rattle.std.proofs.lemmas.Bool.{eq-eqb, eqb-false, le-leb, lt-ltb}
use Rattle.channel_frame.specs.declared.frames.Frame.{Frame}
use Rattle.channel_frame.specs.HeaderValues.{last_value}
use Rattle.ship_frames.specs.declared.shipments.Shipment.{Shipment}
use Rattle.ship_frames.specs.declared.shipments.Sort.{Sort}
use Rattle.ship_frames.specs.declared.shipments.Sort.TheVariants.{Whole, Next}
use Rattle.ship_frames.specs.Pieces.{type_of, piece_size, piece_count, piece_at, piece_frame, frames_from, frames_of}
use Rattle.ship_frames.specs.PieceReading.{BatchPiece, most_pieces, is_sized, is_piece, sort_of, wide_in, long_in, if_piece, piece_of, piece_in, piece_with, pieces_from, pieces_of}
use Rattle.ship_frames.specs.WorkedPieces.{frame_of_two, piece_of_two}
use Rattle.ship_frames.proofs.PieceLaws.{piece_len, piece_most, whole_len}

-- The content type of a sort tells it.
sort_back : (sort : Sort) → sort_of (type_of sort) ≡ Some sort
sort_back Whole = refl
sort_back Next = refl

-- The numbers of headers are read back.
wide_back : (n : ℕ) → n < 2 ^ 64 → wide_in (Some (to_le_bytes w64 n)) ≡ Some n
wide_back n fits = ap (λ (k : ℕ). Some k) (from_le_bytes-to_le_bytes_8 n fits)

long_back : (n : ℕ) → n < 2 ^ 32 → long_in (Some (to_le_bytes w32 n)) ≡ Some n
long_back n fits = ap (λ (k : ℕ). Some k) (from_le_bytes-to_le_bytes_4 n fits)

-- A piece of a batch has the size of its number.
sized : (number count len : ℕ) → (number + 1 < count → len ≡ piece_size) → 1 ≤ len → len ≤ piece_size → number < count → is_sized number count len ≡ true
sized number count len whole some most within = by (number + 1 == count) refl
  where
    by : (b : Bool) → (number + 1 == count) ≡ b → cond b (nat_le 1 len && nat_le len piece_size) (len == piece_size) ≡ true
    by true e = both_true (le-leb 1 len some) (le-leb len piece_size most)
    by false e = let other = eqb-false (number + 1) count e in eq-eqb len piece_size (whole (above other))
      where
        above : (number + 1 ≡ count → ⊥) → number + 1 < count
        above other = grind (arith, other)

-- The piece of a number of a batch can be one.
pub piece_is : (s : Shipment) (number : ℕ) → piece_count s.bytes ≤ most_pieces → number < piece_count s.bytes → is_piece (piece_with s number) ≡ true
piece_is s number few within =
    both_true (lt-ltb number (piece_count s.bytes) within)
    (both_true (le-leb (piece_count s.bytes) most_pieces few)
    (sized number (piece_count s.bytes) (length (piece_at number s.bytes)) (whole_len s.bytes number) (piece_len s.bytes number within) (piece_most s.bytes number) within))

-- It is read back of its frame.
pub piece_back : (place : ℕ) (s : Shipment) (number : ℕ) → s.serial < 2 ^ 64 → piece_count s.bytes ≤ most_pieces → number < piece_count s.bytes
    → piece_in (piece_frame place s number) ≡ Some (piece_with s number)
piece_back place s number fits few within =
    let count = piece_count s.bytes in
    let body = piece_at number s.bytes in
    ap (λ (o : Option Sort). piece_of o (wide_in (Some (to_le_bytes w64 s.serial))) (long_in (Some (to_le_bytes w32 number))) (long_in (Some (to_le_bytes w32 count))) body) (sort_back s.sort)
    ∙ ap (λ (o : Option ℕ). piece_of (Some s.sort) o (long_in (Some (to_le_bytes w32 number))) (long_in (Some (to_le_bytes w32 count))) body) (wide_back s.serial fits)
    ∙ ap (λ (o : Option ℕ). piece_of (Some s.sort) (Some s.serial) o (long_in (Some (to_le_bytes w32 count))) body) (long_back number (omega (arith, within, few)))
    ∙ ap (λ (o : Option ℕ). piece_of (Some s.sort) (Some s.serial) (Some number) o body) (long_back count (omega (arith, few)))
    ∙ ap (λ (b : Bool). cond b (Some (piece_with s number)) None) (piece_is s number few within)

-- So are all of them.
back_from : (place : ℕ) (s : Shipment) (number left : ℕ) → s.serial < 2 ^ 64 → piece_count s.bytes ≤ most_pieces → number + left ≤ piece_count s.bytes
    → map piece_in (frames_from place s number left) ≡ map (λ (p : BatchPiece). Some p) (pieces_from s number left)
back_from place s number zero fits few within = refl
back_from place s number (suc left) fits few within =
    let first = piece_back place s number fits few (omega (arith, within)) in
    let rest = back_from (place + 1) s (number + 1) left fits few (omega (arith, within)) in
    ap (λ (o : Option BatchPiece). o ∷ map piece_in (frames_from (place + 1) s (number + 1) left)) first
    ∙ ap (λ (l : List (Option BatchPiece)). Some (piece_with s number) ∷ l) rest

pub pieces_back : (place : ℕ) (s : Shipment) → s.serial < 2 ^ 64 → piece_count s.bytes ≤ most_pieces → map piece_in (frames_of place s) ≡ map (λ (p : BatchPiece). Some p) (pieces_of s)
pieces_back place s fits few = back_from place s 0 (piece_count s.bytes) fits few (omega arith)

-- ---- what is read

-- What is read can be one of a batch.
if_piece_is : (p q : BatchPiece) → if_piece p ≡ Some q → is_piece q ≡ true
if_piece_is p q e = by (is_piece p) refl e
  where
    by : (b : Bool) → is_piece p ≡ b → cond b (Some p) None ≡ Some q → is_piece q ≡ true
    by true is e = let same : p ≡ q = cc in ap is_piece (sym same) ∙ is
    by false is e = absurd cc

piece_of_is : (sort : Option Sort) (serial number count : Option ℕ) (body : List ℕ) (q : BatchPiece) → piece_of sort serial number count body ≡ Some q → is_piece q ≡ true
piece_of_is (Some sort) (Some serial) (Some number) (Some count) body q e = if_piece_is (record { sort = sort; serial = serial; number = number; count = count; body = body }) q e
piece_of_is _ _ _ _ body q e = absurd cc

pub read_is : (f : Frame) (q : BatchPiece) → piece_in f ≡ Some q → is_piece q ≡ true
read_is f q e = piece_of_is (sort_of f.content) (wide_in (last_value 1000 f.headers)) (long_in (last_value 1001 f.headers)) (long_in (last_value 1002 f.headers)) f.body q e

-- A first piece of two with as many bytes as a piece may have, and a lone one with one more.
pub first_read : (body : List ℕ) → length body ≡ 1048576 → piece_in (frame_of_two 0 2 0 body) ≡ Some (piece_of_two 0 2 body)
first_read body e = ap (λ (n : ℕ). cond (n == piece_size) (Some (piece_of_two 0 2 body)) None) e

pub long_unread : (body : List ℕ) → length body ≡ 1048577 → piece_in (frame_of_two 0 1 0 body) ≡ None
long_unread body e = ap (λ (n : ℕ). cond (nat_le 1 n && nat_le n piece_size) (Some (piece_of_two 0 1 body)) None) e
