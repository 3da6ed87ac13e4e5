-- The lines of a text (docs/FORMATS.md, "Lines for people").
use Rattle.std.specs.Prelude.{ℕ, Bool, true, false, ◌&&◌, ◌==◌, if◌then◌else◌, List, [], ◌∷◌}

-- Whether a newline stands next.
abbrev pub is_newline_next : List ℕ → Bool
is_newline_next [] = false
is_newline_next (b ∷ text) = b == 10

-- Lines whose first one has a byte more at its front.
abbrev pub with_byte : ℕ → List (List ℕ) → List (List ℕ)
with_byte b [] = (b ∷ []) ∷ []
with_byte b (line ∷ lines) = (b ∷ line) ∷ lines

-- The lines of a text: each ends at a newline, the last one may go without. A carriage return right before a newline is no part of
-- its line.
abbrev pub lines_of : List ℕ → List (List ℕ)
lines_of [] = []
lines_of (b ∷ text) =
    if b == 10 then [] ∷ lines_of text
    else (if (b == 13) && is_newline_next text then lines_of text else with_byte b (lines_of text))

-- A line that passes says nothing: it has no bytes but spaces, or its first other byte is '#'.
abbrev pub passes : List ℕ → Bool
passes [] = true
passes (b ∷ line) = if b == 32 then passes line else b == 35
