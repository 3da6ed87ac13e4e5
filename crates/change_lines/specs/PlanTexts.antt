-- What is told of what the commands of a text would do (docs/FORMATS.md, "Plans").
use Rattle.std.specs.Prelude.{◌≡◌, ◌↔◌, ℕ, IsTrue, List, [], ◌++◌}
use Rattle.ctrl_model.specs.State.{State}
use Rattle.frame_lines.specs.TextLines.{lines_of}
use Rattle.change_plans.specs.PlannedLines.{planned, refused_lines}
use Rattle.change_lines.specs.declared.planning.Plan.{Plan}
use Rattle.change_lines.specs.ChangeLines.{change_lines}

-- The lines of the changes that lead from a state to the one behind the commands, and then a line for each that is
-- refused.
abbrev pub plan_text : State → List ℕ → List ℕ
plan_text s text = change_lines s (planned (lines_of text) s).0 ++ refused_lines (planned (lines_of text) s).1

-- A plan of a text in a state: what is told, and whether one of the commands is refused.
pub record IsPlan (s : State) (text : List ℕ) (p : Plan) : Type 0 where
  pub told : p.text ≡ plan_text s text
  pub refuses : IsTrue p.refuses ↔ ((planned (lines_of text) s).1 ≡ [] → ⊥)
