use Rattle.std.proofs.Common.{◌≡◌, ◌-◌, ℕ, suc, List, None, length, refl, ◌∙◌, ap, arith}
use Rattle.std.specs.List.{last_or}
use Rattle.ctrl_model.specs.declared.intercepts.Intercept.{Intercept}
use Rattle.ctrl_model.specs.Numbered.{numbers}
use Rattle.intercepts.proofs.ClaimLaws.{last_number}
use Rattle.intercepts.proofs.store.Intercepts.last.Goals as goal

pub returns-in-Some : goal.returns-in-Some
returns-in-Some c =
    let es : List (ℕ × Intercept) = c.self.inside.claims.entries in
    let some = c.in-Some.ensures.variant.0 refl in
    let many : length es ≡ suc (length es - 1) = omega arith in
    last_number es (length es - 1) c.in-Some.service.now c.in-Some.field-0-1.now None many c.in-Some.ensures.last
    ∙ ap (λ (xs : List (ℕ × Intercept)). last_or None (numbers xs)) c.self.view_is
