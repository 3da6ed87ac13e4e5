-- What a tail is, by what is spelled at its front: unfinished, or faulty in one of three ways (docs/FORMATS.md, "Channel frame").
use Rattle.std.specs.Prelude.{◌≡◌, ℕ, ◌^◌, ◌<◌, ◌≤◌, ◌⊎◌, List, ◌++◌, length, take, drop}
use Rattle.std.specs.List.{AllByRecursion}
use Rattle.channel_frame.specs.declared.frames.Head.{Head}
use Rattle.channel_frame.specs.declared.frames.Header.{Header}
use Rattle.channel_frame.specs.FrameSpelling.{marker, head_len, head_spelling, headers_spelling, IsHead, IsHeader, longest_headers, longest_body}
use Rattle.channel_frame.specs.StreamReading.{frame_len}

-- The bytes begin with the marker.
pub record IsMarked (bytes : List ℕ) : Type 0 where
  pub more : List ℕ
  pub text : bytes ≡ marker ++ more

-- The bytes begin with a head of four numbers, each of four bytes, whatever these numbers are.
pub record IsHeaded (bytes : List ℕ) (h : Head) : Type 0 where
  pub more : List ℕ
  pub text : bytes ≡ head_spelling h ++ more
  pub content : h.content < 2 ^ 32
  pub sequence : h.sequence < 2 ^ 32
  pub headers_len : h.headers_len < 2 ^ 32
  pub body_len : h.body_len < 2 ^ 32

-- The bytes begin with a head within the limits, and are fewer than it announces.
pub record IsCutBehindHead (bytes : List ℕ) : Type 0 where
  pub head : Head
  pub headed : IsHeaded bytes head
  pub is_head : IsHead head
  pub few : length bytes < frame_len head

-- An unfinished frame: fewer bytes than a head has, or than a head within the limits announces.
abbrev pub IsUnfinished : List ℕ → Type 0
IsUnfinished bytes = (length bytes < head_len) ⊎ IsCutBehindHead bytes

-- As many bytes as a head has, which do not begin with the marker.
pub record IsUnmarked (bytes : List ℕ) : Type 0 where
  pub long : head_len ≤ length bytes
  pub other : IsMarked bytes → ⊥

-- A head of which a length passes its limit.
pub record IsTooLong (bytes : List ℕ) : Type 0 where
  pub head : Head
  pub headed : IsHeaded bytes head
  pub long : (longest_headers < head.headers_len) ⊎ (longest_body < head.body_len)

-- A head within the limits, with all the bytes that it announces, and no headers are spelled by its headers part.
pub record HasBadHeaders (bytes : List ℕ) : Type 0 where
  pub head : Head
  pub headed : IsHeaded bytes head
  pub is_head : IsHead head
  pub there : frame_len head ≤ length bytes
  pub none : (hs : List Header) → AllByRecursion IsHeader hs → headers_spelling hs ≡ take head.headers_len (drop head_len bytes) → ⊥
