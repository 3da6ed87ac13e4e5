-- What the headers of a frame hold under a key (docs/FORMATS.md, "Channel frame").
use Rattle.std.specs.Prelude.{◌≡◌, ℕ, ◌==◌, Bool, List, None, filter}
use Rattle.std.specs.declared.option.Option.{Option}
use Rattle.std.specs.Option.{option_map}
use Rattle.std.specs.List.{last_or, AllByRecursion}
use Rattle.channel_frame.specs.declared.frames.Header.{Header}

-- Whether a header has a key.
abbrev pub has_key : ℕ → Header → Bool
has_key key h = h.key == key

-- The last header with a key, if there is one: of a repeated key the last counts.
abbrev pub last_header : ℕ → List Header → Option Header
last_header key hs = last_or None (filter (has_key key) hs)

-- Its value.
abbrev pub last_value : ℕ → List Header → Option (List ℕ)
last_value key hs = option_map (λ h. h.value) (last_header key hs)

-- No header has the key.
abbrev pub IsWithout : ℕ → List Header → Type 0
IsWithout key hs = AllByRecursion (λ h. h.key ≡ key → ⊥) hs
