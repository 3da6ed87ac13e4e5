-- What is read before a record (docs/FORMATS.md, "Slots").
use Rattle.std.specs.Prelude.{ℕ, ◌+◌, ◌^◌, ◌<◌, ◌≤◌, Bool, IsTrue, List, [], ◌∷◌, None, Some}
use Rattle.std.specs.declared.option.Option.{Option}
use Rattle.std.specs.Int.{w32, to_le_bytes}
use Rattle.ziti_outside.specs.Images.{StandAt}
use Rattle.journal_core.specs.Slots.{IsClosed}

-- What stands before a record: a closed gate, or an open one with the length behind it, and room for so many bytes.
abbrev pub IsHead : (tells : Bool) (at end : ℕ) → List ℕ → Option ℕ → Type 0
IsHead tells at end bytes None = IsTrue tells → IsClosed at bytes
IsHead tells at end bytes (Some n) =
    (at + 5 + n ≤ end) × (n < 2 ^ 32) × (IsTrue tells → StandAt at (1 ∷ []) bytes × StandAt (at + 1) (to_le_bytes w32 n) bytes)
