-- The piece of a batch that a frame is, if it is one (docs/FORMATS.md, "Ship frames").
use Rattle.std.specs.Prelude.{ℕ, zero, suc, ◌+◌, ◌==◌, ◌&&◌, nat_lt, nat_le, Bool, cond, List, [], ◌∷◌, length, None, Some}
use Rattle.std.specs.declared.option.Option.{Option}
use Rattle.std.specs.Int.{w32, w64, from_le_bytes}
use Rattle.channel_frame.specs.declared.frames.Frame.{Frame}
use Rattle.channel_frame.specs.HeaderValues.{last_value}
use Rattle.ship_frames.specs.declared.shipments.Shipment.{Shipment}
use Rattle.ship_frames.specs.declared.shipments.Sort.{Sort}
use Rattle.ship_frames.specs.declared.shipments.Sort.TheVariants.{Whole, Next}
use Rattle.ship_frames.specs.Pieces.{whole_type, next_type, piece_size, piece_count, piece_at}

-- A piece of a batch: of which sort and of which serial the batch is, the number of the piece from 0, how many pieces the batch has, and the bytes
-- of the piece.
pub record BatchPiece : Type 0 where
  pub sort : Sort
  pub serial : ℕ
  pub number : ℕ
  pub count : ℕ
  pub body : List ℕ

-- How many pieces a batch may have.
abbrev pub most_pieces : ℕ
most_pieces = 1024

-- Whether some bytes have the size of the piece of a number, of so many: each has as many bytes as a piece may have, but for the last one, which
-- has at least one byte and no more than that.
abbrev pub is_sized : (number count len : ℕ) → Bool
is_sized number count len = cond (number + 1 == count) (nat_le 1 len && nat_le len piece_size) (len == piece_size)

-- Whether a piece can be one of a batch: its number is one of so many, which are no more than a batch may have, and it has the size of its number.
abbrev pub is_piece : BatchPiece → Bool
is_piece p = nat_lt p.number p.count && (nat_le p.count most_pieces && is_sized p.number p.count (length p.body))

-- The sort of the batches whose pieces have a content type, if there is one.
abbrev pub sort_of : (content : ℕ) → Option Sort
sort_of content = cond (content == whole_type) (Some Whole) (cond (content == next_type) (Some Next) None)

-- The number that the value of a header tells in eight bytes, the least first. Where there is no such header, or it has another length, there is none.
abbrev pub wide_in : Option (List ℕ) → Option ℕ
wide_in None = None
wide_in (Some value) = cond (length value == 8) (Some (from_le_bytes w64 value)) None

-- The same in four bytes.
abbrev pub long_in : Option (List ℕ) → Option ℕ
long_in None = None
long_in (Some value) = cond (length value == 4) (Some (from_le_bytes w32 value)) None

-- The piece, if it can be one of a batch.
abbrev pub if_piece : BatchPiece → Option BatchPiece
if_piece p = cond (is_piece p) (Some p) None

-- The piece of these parts, if there is each of them and it can be one of a batch.
abbrev pub piece_of : Option Sort → (serial number count : Option ℕ) → (body : List ℕ) → Option BatchPiece
piece_of (Some sort) (Some serial) (Some number) (Some count) body =
    if_piece (record { sort = sort; serial = serial; number = number; count = count; body = body })
piece_of _ _ _ _ body = None

-- The piece that a frame is: its content type is one of the two, and it has a header each of the serial, the number and the count, whose values have
-- eight, four and four bytes. Of a repeated header the last counts.
abbrev pub piece_in : Frame → Option BatchPiece
piece_in f =
    piece_of (sort_of f.content) (wide_in (last_value 1000 f.headers)) (long_in (last_value 1001 f.headers)) (long_in (last_value 1002 f.headers)) f.body

-- ---- the pieces of a batch

-- The piece of a number of a batch.
abbrev pub piece_with : Shipment → (number : ℕ) → BatchPiece
piece_with s number =
    record { sort = s.sort; serial = s.serial; number = number; count = piece_count s.bytes; body = piece_at number s.bytes }

-- So many pieces of a batch, from the one of a number on.
abbrev pub pieces_from : Shipment → (number left : ℕ) → List BatchPiece
pieces_from s number zero = []
pieces_from s number (suc left) = piece_with s number ∷ pieces_from s (number + 1) left

-- The pieces of a batch in order.
abbrev pub pieces_of : Shipment → List BatchPiece
pieces_of s = pieces_from s 0 (piece_count s.bytes)
