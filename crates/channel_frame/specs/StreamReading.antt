-- A session's bytes read as frames and a tail. The reading is given twice: as a relation on whole lists of bytes (`Reads`),
-- and as functions that compute it; a law says that they are one (docs/FORMATS.md, "Channel frame").
use Rattle.std.specs.Prelude.{◌≡◌, ℕ, zero, suc, ◌+◌, ◌-◌, ◌<◌, ◌==◌, nat_lt, Bool, ◌&&◌, ◌||◌, if◌then◌else◌, List, [], ◌∷◌, ◌++◌, length, take, drop, slice_index, None, Some, Ok, Err}
use Rattle.std.specs.declared.option.Option.{Option}
use Rattle.std.specs.declared.result.Result.{Result}
use Rattle.std.specs.Option.{option_map}
use Rattle.std.specs.Int.{w32, from_le_bytes}
use Rattle.std.specs.List.{flat_map, AllByRecursion}
use Rattle.channel_frame.specs.declared.frames.Frame.{Frame}
use Rattle.channel_frame.specs.declared.frames.Head.{Head}
use Rattle.channel_frame.specs.declared.frames.Header.{Header}
use Rattle.channel_frame.specs.declared.frames.FrameFault.{FrameFault}
use Rattle.channel_frame.specs.declared.frames.FrameFault.TheVariants.{BadMarker, TooLong, BadHeaders}
use Rattle.channel_frame.specs.declared.frames.Front.{Front}
use Rattle.channel_frame.specs.declared.frames.Front.TheVariants.{Short, Bad, Whole}
use Rattle.channel_frame.specs.FrameSpelling.{IsFrame, head_len, spelling, longest_headers, longest_body}

-- The number that four bytes from a place on spell, the least first.
abbrev pub number_at : ℕ → List ℕ → ℕ
number_at at bytes =
    from_le_bytes w32 (slice_index bytes at ∷ slice_index bytes (at + 1) ∷ slice_index bytes (at + 2) ∷ slice_index bytes (at + 3) ∷ [])

-- Whether the first four bytes are the marker.
abbrev pub starts_with_marker : List ℕ → Bool
starts_with_marker bytes =
    (slice_index bytes 0 == 3) && (slice_index bytes 1 == 6) && (slice_index bytes 2 == 9) && (slice_index bytes 3 == 12)

-- The head that 20 bytes have: no head without the marker, else none with a length above its limit.
abbrev pub head_of : List ℕ → Result Head FrameFault
head_of bytes =
    if starts_with_marker bytes
    then (if nat_lt longest_headers (number_at 12 bytes) || nat_lt longest_body (number_at 16 bytes)
    then Err TooLong
    else Ok (record { content = number_at 4 bytes; sequence = number_at 8 bytes; headers_len = number_at 12 bytes; body_len = number_at 16 bytes }))
    else Err BadMarker

-- How many bytes a frame with this head has.
abbrev pub frame_len : Head → ℕ
frame_len h = head_len + h.headers_len + h.body_len

-- The header at the front of some bytes, if a whole one stands there.
abbrev pub header_at : List ℕ → Option Header
header_at bytes =
    if nat_lt (length bytes) 8 || nat_lt (length bytes) (8 + number_at 4 bytes)
    then None
    else Some (record { key = number_at 0 bytes; value = take (number_at 4 bytes) (drop 8 bytes) })

-- A header, and what is read behind it.
abbrev pub and_then_headers : Option Header → (ℕ → Option (List Header)) → Option (List Header)
and_then_headers None rest = None
and_then_headers (Some h) rest = option_map (λ hs. h ∷ hs) (rest (7 + length h.value))

-- The headers that fill some bytes, once so many bytes of them are passed over.
abbrev pub headers_past : List ℕ → ℕ → Option (List Header)
headers_past [] n = Some []
headers_past (b ∷ bytes) (suc n) = headers_past bytes n
headers_past (b ∷ bytes) zero = and_then_headers (header_at (b ∷ bytes)) (headers_past bytes)

-- The headers that fill a headers part exactly, if it is a row of headers.
abbrev pub headers_of : List ℕ → Option (List Header)
headers_of part = headers_past part 0

-- Headers that were read, and those that the rest is read as.
abbrev pub with_front : List Header → Option (List Header) → Option (List Header)
with_front front rest = option_map (λ hs. front ++ hs) rest

-- The headers part of a frame with this head.
abbrev pub headers_part : Head → List ℕ → List ℕ
headers_part h bytes = take h.headers_len (drop head_len bytes)

-- The frame of this head, where its headers part is a row of headers.
abbrev pub with_headers : Head → List ℕ → Option (List Header) → Front
with_headers h bytes None = Bad BadHeaders
with_headers h bytes (Some hs) =
    Whole (record { content = h.content; sequence = h.sequence; headers = hs; body = take h.body_len (drop (head_len + h.headers_len) bytes) }) (frame_len h)

-- What stands behind a head: an unfinished frame where fewer bytes are there than it announces.
abbrev pub with_head : List ℕ → Result Head FrameFault → Front
with_head bytes (Err e) = Bad e
with_head bytes (Ok h) = if nat_lt (length bytes) (frame_len h) then Short else with_headers h bytes (headers_of (headers_part h bytes))

-- What stands at the front of a session's bytes, tested in this order: fewer than 20 bytes are an unfinished frame; then the
-- marker and the two lengths; then whether all the bytes are there; then the headers.
abbrev pub front : List ℕ → Front
front bytes = if nat_lt (length bytes) head_len then Short else with_head bytes (head_of bytes)

-- The bytes begin with a good head and have exactly the length that it announces.
pub record IsAnnounced (bytes : List ℕ) : Type 0 where
  pub head : Head
  pub is_head : head_of bytes ≡ Ok head
  pub whole : length bytes ≡ frame_len head

-- A whole frame, and what is read behind it.
abbrev pub and_then_frames : Front → (ℕ → List Frame) → List Frame
and_then_frames Short rest = []
and_then_frames (Bad e) rest = []
and_then_frames (Whole f n) rest = f ∷ rest (n - 1)

-- The frames of some bytes, once so many bytes of them are passed over.
abbrev pub frames_past : List ℕ → ℕ → List Frame
frames_past [] n = []
frames_past (b ∷ bytes) (suc n) = frames_past bytes n
frames_past (b ∷ bytes) zero = and_then_frames (front (b ∷ bytes)) (frames_past bytes)

-- The frames that a session's bytes are read as.
abbrev pub frames_of : List ℕ → List Frame
frames_of bytes = frames_past bytes 0

-- The tail from a place on where no frame stands, or what comes behind the frame there.
abbrev pub and_then_rest : List ℕ → Front → (ℕ → List ℕ) → List ℕ
and_then_rest bytes Short rest = bytes
and_then_rest bytes (Bad e) rest = bytes
and_then_rest bytes (Whole f n) rest = rest (n - 1)

-- The tail of some bytes, once so many bytes of them are passed over.
abbrev pub rest_past : List ℕ → ℕ → List ℕ
rest_past [] n = []
rest_past (b ∷ bytes) (suc n) = rest_past bytes n
rest_past (b ∷ bytes) zero = and_then_rest (b ∷ bytes) (front (b ∷ bytes)) (rest_past bytes)

-- The tail that is left of a session's bytes behind their frames.
abbrev pub rest_of : List ℕ → List ℕ
rest_of bytes = rest_past bytes 0

-- The fault of a tail, if it is a faulty one.
abbrev pub fault_in : Front → Option FrameFault
fault_in Short = None
fault_in (Bad e) = Some e
fault_in (Whole f n) = None

-- The fault that ends a session's reading, and its place: that of the faulty frame's first byte.
abbrev pub fault_of : List ℕ → Option (FrameFault × ℕ)
fault_of bytes = option_map (λ e. (e, length bytes - length (rest_of bytes))) (fault_in (front (rest_of bytes)))

-- A tail: no frame is spelled at its front.
abbrev pub IsTail : List ℕ → Type 0
IsTail rest = (f : Frame) (more : List ℕ) → IsFrame f → rest ≡ spelling f ++ more → ⊥

-- The bytes are the spellings of these frames in order, followed by this tail.
pub record Reads (bytes : List ℕ) (frames : List Frame) (rest : List ℕ) : Type 0 where
  pub text : bytes ≡ flat_map spelling frames ++ rest
  pub each : AllByRecursion IsFrame frames
  pub tail : IsTail rest

-- Each number is a byte.
abbrev pub AreBytes : List ℕ → Type 0
AreBytes bytes = AllByRecursion (λ b. b < 256) bytes
