-- Kinds of items in bytes, as frames, of which lines are told, one behind another (docs/FORMATS.md, "Lines for people").
use Rattle.std.specs.Prelude.{◌≡◌, ℕ, ◌≤◌, List, [], ◌∷◌, ◌++◌, length, drop, Ok, Err}
use Rattle.std.specs.declared.result.Result.{Result}
use Rattle.frame_lines.specs.declared.told.TellCause.{TellCause}
use Rattle.frame_lines.specs.declared.told.DecodeCause.{DecodeCause}
use Rattle.frame_lines.specs.declared.told.DecodeCause.TheVariants.{Untold}
use Rattle.frame_lines.specs.declared.kinds.Turn.{Turn}
use Rattle.frame_lines.specs.declared.kinds.Turn.TheVariants as turn

-- What stands at the front of some bytes: less than one item; a whole one, with its line or why it has none, and how many bytes it has; or
-- none, and why.
pub data Front : Type 0 where
  Short : Front
  Whole : Result (List ℕ) TellCause → ℕ → Front
  Faulty : DecodeCause → Front

-- A kind of items: what stands at the front of some bytes that begin at a place; the line of each item that some bytes are read as, in order,
-- or why it has none; and the tail that is left behind these.
pub record Reading : Type 0 where
  pub front : ℕ → List ℕ → Front
  pub lines : List ℕ → List (Result (List ℕ) TellCause)
  pub tail : List ℕ → List ℕ

-- What becomes of a front: it waits for more bytes, its line is told, or the telling ends.
abbrev pub turn_of : Front → Turn
turn_of Short = turn.Short
turn_of (Whole (Ok line) len) = turn.Told len
turn_of (Whole (Err cause) len) = turn.Ended (Untold cause)
turn_of (Faulty cause) = turn.Ended cause

-- The line of a front with its newline, where it has one.
abbrev pub line_in : Front → List ℕ
line_in Short = []
line_in (Whole (Ok line) len) = line ++ 10 ∷ []
line_in (Whole (Err cause) len) = []
line_in (Faulty cause) = []

-- The items of a kind stand one behind another: no bytes are less than one; a whole one has a byte at least and all of its bytes are there, it
-- is the first, and the others are those behind it; where none is whole, none is read; and whatever stands at the front stays there when more
-- bytes come.
pub record IsInOrder (k : Reading) : Type 0 where
  pub none : (at : ℕ) → k.front at [] ≡ Short
  pub within : (at len : ℕ) (bytes : List ℕ) (line : Result (List ℕ) TellCause) → k.front at bytes ≡ Whole line len → (1 ≤ len) × (len ≤ length bytes)
  pub first : (at len : ℕ) (bytes : List ℕ) (line : Result (List ℕ) TellCause) → k.front at bytes ≡ Whole line len
      → (k.lines bytes ≡ line ∷ k.lines (drop len bytes)) × (k.tail bytes ≡ k.tail (drop len bytes))
  pub last : (at : ℕ) (bytes : List ℕ) → ((line : Result (List ℕ) TellCause) (len : ℕ) → k.front at bytes ≡ Whole line len → ⊥)
      → (k.lines bytes ≡ []) × (k.tail bytes ≡ bytes)
  pub stays : (at : ℕ) (bytes more : List ℕ) → (k.front at bytes ≡ Short → ⊥) → k.front at (bytes ++ more) ≡ k.front at bytes

-- What becomes of a whole item of so many bytes, whose line was put down or does not exist.
abbrev pub turn_by : Result (Unit {0}) TellCause → ℕ → Turn
turn_by (Ok _) len = turn.Told len
turn_by (Err cause) len = turn.Ended (Untold cause)
