-- What a change makes of the intercepts, and of a state (docs/PROMISES.md, "Commands on intercepts").
use Rattle.std.specs.Prelude.{◌≡◌, ℕ, true, ⊤, List, None, Some}
use Rattle.std.specs.declared.option.Option.{Option}
use Rattle.ctrl_model.specs.declared.intercepts.Intercept.{Intercept}
use Rattle.ctrl_model.specs.InterceptForm.{is_intercept}
use Rattle.ctrl_model.specs.Numbered.{with_at, without}
use Rattle.ctrl_model.specs.State.{State}
use Rattle.intercepts.specs.declared.changes.InterceptChange.{InterceptChange}
use Rattle.intercepts.specs.declared.changes.InterceptChange.TheVariants as change

-- The intercepts after a change.
abbrev pub after_intercept_change : InterceptChange → List (ℕ × Intercept) → List (ℕ × Intercept)
after_intercept_change (change.Set service intercept) xs = with_at service.0 intercept xs
after_intercept_change (change.Remove service) xs = without xs service.0

-- The intercepts after a change, if there is one.
abbrev pub intercepts_after : Option InterceptChange → List (ℕ × Intercept) → List (ℕ × Intercept)
intercepts_after None xs = xs
intercepts_after (Some c) xs = after_intercept_change c xs

-- A state with these intercepts in place of its own.
abbrev pub with_intercepts : List (ℕ × Intercept) → State → State
with_intercepts xs s = record s { intercepts = xs }

-- What a service gets by a change is an intercept.
abbrev pub Claims : InterceptChange → Type 0
Claims (change.Set service intercept) = is_intercept intercept ≡ true
Claims (change.Remove service) = ⊤

-- What a change needs of a state.
abbrev pub CanClaim : InterceptChange → State → Type 0
CanClaim c s = Claims c

-- The state after a change of its intercepts, not yet settled.
abbrev pub claimed_by : InterceptChange → State → State
claimed_by c s = with_intercepts (after_intercept_change c s.intercepts) s
