-- How a frame is spelled in bytes (docs/FORMATS.md, "Channel frame").
use Rattle.std.specs.Prelude.{ℕ, ◌^◌, ◌<◌, ◌≤◌, List, [], ◌∷◌, ◌++◌, length}
use Rattle.std.specs.Int.{w32, to_le_bytes}
use Rattle.std.specs.List.{flat_map, AllByRecursion}
use Rattle.channel_frame.specs.declared.frames.Frame.{Frame}
use Rattle.channel_frame.specs.declared.frames.Head.{Head}
use Rattle.channel_frame.specs.declared.frames.Header.{Header}

-- The four bytes with which each frame begins.
abbrev pub marker : List ℕ
marker = 3 ∷ 6 ∷ 9 ∷ 12 ∷ []

-- A number as four bytes, the least first.
abbrev pub number : ℕ → List ℕ
number n = to_le_bytes w32 n

-- A header: its key, its length and its bytes.
abbrev pub header_spelling : Header → List ℕ
header_spelling h = number h.key ++ (number (length h.value) ++ h.value)

-- The headers in order.
abbrev pub headers_spelling : List Header → List ℕ
headers_spelling hs = flat_map header_spelling hs

-- The head: the marker, the content type, the sequence number and the two lengths.
abbrev pub head_spelling : Head → List ℕ
head_spelling h = marker ++ (number h.content ++ (number h.sequence ++ (number h.headers_len ++ number h.body_len)))

-- How many bytes a head has.
abbrev pub head_len : ℕ
head_len = 20

-- The head that a frame has.
abbrev pub head_for : Frame → Head
head_for f = record { content = f.content; sequence = f.sequence; headers_len = length (headers_spelling f.headers); body_len = length f.body }

-- A frame: its head, its headers and its body.
abbrev pub spelling : Frame → List ℕ
spelling f = head_spelling (head_for f) ++ (headers_spelling f.headers ++ f.body)

-- How many bytes the headers of a frame may have.
abbrev pub longest_headers : ℕ
longest_headers = 65536

-- How many bytes the body of a frame may have.
abbrev pub longest_body : ℕ
longest_body = 1048576

-- A head within the limits.
pub record IsHead (h : Head) : Type 0 where
  pub content : h.content < 2 ^ 32
  pub sequence : h.sequence < 2 ^ 32
  pub headers_len : h.headers_len ≤ longest_headers
  pub body_len : h.body_len ≤ longest_body

-- A key fits four bytes.
abbrev pub IsHeader : Header → Type 0
IsHeader h = h.key < 2 ^ 32

-- The parts of a frame are within their limits.
pub record KeepsLimits (f : Frame) : Type 0 where
  pub headers_len : length (headers_spelling f.headers) ≤ longest_headers
  pub body_len : length f.body ≤ longest_body

-- A frame that has a spelling: its numbers fit, and its parts are within the limits.
pub record IsFrame (f : Frame) : Type 0 where
  pub content : f.content < 2 ^ 32
  pub sequence : f.sequence < 2 ^ 32
  pub keys : AllByRecursion IsHeader f.headers
  pub headers_len : length (headers_spelling f.headers) ≤ longest_headers
  pub body_len : length f.body ≤ longest_body
