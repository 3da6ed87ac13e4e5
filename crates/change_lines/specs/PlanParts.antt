-- How a plan is put together. Only private contracts cite these.
use Rattle.std.specs.Prelude.{◌≡◌, ◌↔◌, ℕ, IsTrue, List, [], ◌++◌}
use Rattle.change_lines.specs.declared.planning.Plan.{Plan}

-- A plan of some lines of changes and some of refusals.
pub record Joins (lines refused : List ℕ) (p : Plan) : Type 0 where
  pub told : p.text ≡ lines ++ refused
  pub refuses : IsTrue p.refuses ↔ (refused ≡ [] → ⊥)
