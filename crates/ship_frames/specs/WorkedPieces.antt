-- Frames and pieces that were worked by hand.
use Rattle.std.specs.Prelude.{ℕ, List, [], ◌∷◌}
use Rattle.channel_frame.specs.declared.frames.Frame.{Frame}
use Rattle.channel_frame.specs.declared.frames.Header.{Header}
use Rattle.ship_frames.specs.declared.shipments.Shipment.{Shipment}
use Rattle.ship_frames.specs.declared.shipments.Sort.{Sort}
use Rattle.ship_frames.specs.declared.shipments.Sort.TheVariants.{Whole, Next}
use Rattle.ship_frames.specs.PieceReading.{BatchPiece}
use Rattle.ship_frames.specs.GatheredPieces.{Parts}

-- A batch of some bytes as it is shipped: a Next of serial 5.
abbrev pub next_five : List ℕ → Shipment
next_five bytes = record { sort = Next; serial = 5; bytes = bytes }

-- The headers of a serial and of a number below 256, and of a count by its first two bytes.
abbrev pub of_serial : ℕ → Header
of_serial n = record { key = 1000; value = n ∷ 0 ∷ 0 ∷ 0 ∷ 0 ∷ 0 ∷ 0 ∷ 0 ∷ [] }

abbrev pub of_number : ℕ → Header
of_number n = record { key = 1001; value = n ∷ 0 ∷ 0 ∷ 0 ∷ [] }

abbrev pub of_count : (first second : ℕ) → Header
of_count first second = record { key = 1002; value = first ∷ second ∷ 0 ∷ 0 ∷ [] }

-- A frame with these headers.
abbrev pub framed : (content : ℕ) → List Header → (body : List ℕ) → Frame
framed content headers body = record { content = content; sequence = 0; headers = headers; body = body }

-- The frame of a piece of a Next of serial 2.
abbrev pub frame_of_two : (number first second : ℕ) → (body : List ℕ) → Frame
frame_of_two number first second body = framed 1901 (of_serial 2 ∷ of_number number ∷ of_count first second ∷ []) body

-- A piece of a Next of serial 2.
abbrev pub piece_of_two : (number count : ℕ) → (body : List ℕ) → BatchPiece
piece_of_two number count body = record { sort = Next; serial = 2; number = number; count = count; body = body }

-- The first piece of two of it, and the batch of which it came.
abbrev pub first_piece : BatchPiece
first_piece = piece_of_two 0 2 (7 ∷ [])

abbrev pub first_came : Parts
first_came = record { sort = Next; serial = 2; count = 2; came = 1; bytes = 7 ∷ [] }

-- The whole batch.
abbrev pub both_pieces : Shipment
both_pieces = record { sort = Next; serial = 2; bytes = 7 ∷ 8 ∷ [] }
