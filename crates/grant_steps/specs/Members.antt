-- Which entities a side matches (docs/RULES.md, "Policies and grants").
use Rattle.std.specs.Prelude.{ℕ, List, filter}
use Rattle.ctrl_model.specs.declared.kinds.Semantic.{Semantic}
use Rattle.ctrl_model.specs.declared.kinds.Side.{Side}
use Rattle.ctrl_model.specs.Matches.{matches}
use Rattle.ctrl_model.specs.Numbered.{numbers}
use Rattle.ctrl_model.specs.State.{Entity}

-- The numbers of a kind's entities that a side matches, ascending.
abbrev pub members_of : Side → Semantic → List (ℕ × Entity) → List ℕ
members_of side semantic rows = numbers (filter (λ row. matches side semantic row.1) rows)
