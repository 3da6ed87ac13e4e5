-- What is tested at one place of rows or columns. Only private functions and proofs cite this file.
use Rattle.std.specs.Prelude.{◌≡◌, ℕ, ◌<◌, ◌==◌, nat_le, Bool, List, length, slice_index, slice_index_or, bit_and}
use Rattle.bit_lanes.specs.Lanes.{together}

-- How many words a vector has.
abbrev pub lanes : ℕ
lanes = 8

-- The word at a place has all bits of the wanted one.
abbrev pub has_all : List ℕ → List ℕ → ℕ → Bool
has_all have want n = bit_and (slice_index have n) (slice_index want n) == slice_index want n

-- The word at a place has no bit of the wanted one.
abbrev pub has_none : List ℕ → List ℕ → ℕ → Bool
has_none have want n = bit_and (slice_index have n) (slice_index want n) == 0

-- The left number at a place is at most the other two together.
abbrev pub is_at_most : List ℕ → List ℕ → List ℕ → ℕ → Bool
is_at_most left cost right n = nat_le (slice_index left n) (together (slice_index cost n) (slice_index right n))

-- A vector has so many lanes, and they are these.
pub record Lanes {A : Type 0} (missing : A) (count : ℕ) (vector : List A) (lane : ℕ → A) : Type 0 where
  pub long : length vector ≡ count
  pub each : (i : ℕ) → i < count → slice_index_or vector i missing ≡ lane i
