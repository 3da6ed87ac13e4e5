-- When one rule of hops mirrors another: it has the same hops between places under other names. So a graph by places can stand
-- for a network by router numbers (docs/RULES.md, "Paths").
use Rattle.std.specs.Prelude.{◌≡◌, ℕ, ◌<◌, List, Some}
use Rattle.std.specs.Option.{option_map}
use Rattle.std.specs.List.{AllByRecursion}
use Rattle.ctrl_model.specs.Walks.{Hops}

-- A hop to the place under its other name, at the same cost.
abbrev pub renamed : (ℕ → ℕ) → ℕ × ℕ → ℕ × ℕ
renamed rename h = (rename h.0, h.1)

-- The second rule of hops mirrors the first on the places below a number: over each link it leads from a place's other name to
-- the other name of where the first rule leads from the place, at the same cost, or nowhere where that one does; the first
-- rule's hops stay among these places; and no two of them have one name.
pub record Mirrors (places : ℕ) (rename : ℕ → ℕ) (a b : Hops) : Type 0 where
  pub hop : (v l : ℕ) → v < places → b (rename v) l ≡ option_map (renamed rename) (a v l)
  pub stays : (v l : ℕ) (h : ℕ × ℕ) → v < places → a v l ≡ Some h → h.0 < places
  pub apart : (u v : ℕ) → u < places → v < places → rename u ≡ rename v → u ≡ v

-- Each of the numbers is that of a place.
abbrev pub ArePlaces : ℕ → List ℕ → Type 0
ArePlaces places vs = AllByRecursion (λ v. v < places) vs
