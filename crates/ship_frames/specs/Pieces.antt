-- A batch as it is shipped: in pieces, each of which is the body of a frame (docs/FORMATS.md, "Ship frames").
use Rattle.std.specs.Prelude.{ℕ, zero, suc, ◌+◌, ◌*◌, ◌^◌, ◌%◌, ◌/◌, List, [], ◌∷◌, ◌++◌, length, take, drop}
use Rattle.std.specs.Int.{w32, w64, to_le_bytes}
use Rattle.std.specs.List.{flat_map}
use Rattle.channel_frame.specs.declared.frames.Frame.{Frame}
use Rattle.channel_frame.specs.declared.frames.Header.{Header}
use Rattle.channel_frame.specs.FrameSpelling.{spelling}
use Rattle.ship_frames.specs.declared.shipments.Shipment.{Shipment}
use Rattle.ship_frames.specs.declared.shipments.Sort.{Sort}
use Rattle.ship_frames.specs.declared.shipments.Sort.TheVariants.{Whole, Next}

-- The content type of the pieces of a Whole, a batch that is applied to no rows.
abbrev pub whole_type : ℕ
whole_type = 1900

-- The content type of the pieces of a Next, a batch that is applied to the rows of the serial before its own.
abbrev pub next_type : ℕ
next_type = 1901

-- The content type of the pieces of batches of a sort.
abbrev pub type_of : Sort → ℕ
type_of Whole = whole_type
type_of Next = next_type

-- How many bytes a piece has, but for the last one of a batch, which has what is left.
abbrev pub piece_size : ℕ
piece_size = 1048576

-- How many pieces some bytes have.
abbrev pub piece_count : List ℕ → ℕ
piece_count bytes = (length bytes + 1048575) / piece_size

-- The piece of a number, counted from 0.
abbrev pub piece_at : (number : ℕ) → List ℕ → List ℕ
piece_at number bytes = take piece_size (drop (number * piece_size) bytes)

-- The headers of the piece of a number: the serial of the rows behind the batch, the number of the piece, and how many pieces there are.
abbrev pub piece_headers : Shipment → (number : ℕ) → List Header
piece_headers s number =
    record { key = 1000; value = to_le_bytes w64 s.serial } ∷ record { key = 1001; value = to_le_bytes w32 number }
    ∷ record { key = 1002; value = to_le_bytes w32 (piece_count s.bytes) } ∷ []

-- The frame of the piece of a number at a place of the output, counted from 0: its sequence is the place, as far as four bytes go.
abbrev pub piece_frame : (place : ℕ) → Shipment → (number : ℕ) → Frame
piece_frame place s number =
    record { content = type_of s.sort; sequence = place % 2 ^ 32; headers = piece_headers s number; body = piece_at number s.bytes }

-- The frames of so many pieces of a batch, from the piece of a number on, from a place of the output on.
abbrev pub frames_from : (place : ℕ) → Shipment → (number left : ℕ) → List Frame
frames_from place s number zero = []
frames_from place s number (suc left) = piece_frame place s number ∷ frames_from (place + 1) s (number + 1) left

-- The frames of all pieces of a batch, from a place of the output on.
abbrev pub frames_of : (place : ℕ) → Shipment → List Frame
frames_of place s = frames_from place s 0 (piece_count s.bytes)

-- The frames of batches, one behind another, from a place of the output on.
abbrev pub frames_of_all : (place : ℕ) → List Shipment → List Frame
frames_of_all place [] = []
frames_of_all place (s ∷ more) = frames_of place s ++ frames_of_all (place + piece_count s.bytes) more

-- The bytes of frames, one behind another.
abbrev pub written : List Frame → List ℕ
written frames = flat_map spelling frames
