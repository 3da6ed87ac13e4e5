-- The last of the intercepts that a state has (docs/RULES.md, "Valid states").
use Rattle.std.specs.Prelude.{◌≡◌, ℕ, ◌<◌, List, [], ◌∷◌, ◌++◌, None, Some}
use Rattle.std.specs.declared.option.Option.{Option}
use Rattle.ctrl_model.specs.declared.intercepts.Intercept.{Intercept}
use Rattle.ctrl_model.specs.Numbered.{Between}

-- There are no intercepts, or they ascend and the last one stands under this number.
abbrev pub IsLast : Option ℕ → (next : ℕ) → List (ℕ × Intercept) → Type 0
IsLast None next is = is ≡ []
IsLast (Some n) next is = Between 1 next is × ((before : List (ℕ × Intercept)) × (i : Intercept) × (is ≡ before ++ (n, i) ∷ []))
