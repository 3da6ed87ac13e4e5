-- Laws on terminators that are looked up by their numbers.
use Rattle.std.proofs.Common.{◌≡◌, ℕ, Bool, true, false, cond, List, [], ◌∷◌, filter, Option, inl, inr, refl, ◌∙◌, ap}
use Rattle.std.specs.Option.{option_map_or}
use Rattle.ctrl_model.specs.Membership.{Among}
use Rattle.ctrl_model.specs.Networks.{Network, is_counted, counted}
use Rattle.ctrl_model.specs.Numbered.{numbers}
use Rattle.ctrl_model.specs.PlainPaths.{NoneTwice}
use Rattle.ctrl_model.specs.State.{Terminator}
use Rattle.model_laws.proofs.NumberLaws.{at-unique}
use Rattle.policy_advisor.specs.Steps.{counts}

found_among : (w : Network) (s : ℕ) (instance : List ℕ) → NoneTwice (numbers w.terminators) → (es : List (ℕ × Terminator))
    → ((e : ℕ × Terminator) → Among e es → Among e w.terminators) → filter (counts w s instance) (numbers es) ≡ numbers (filter (is_counted s instance) es)
found_among w s instance once [] present = refl
found_among w s instance once (e ∷ es) present =
    ap (λ (o : Option Terminator). cond (option_map_or (λ t. is_counted s instance (e.0, t)) o false) (e.0 ∷ filter (counts w s instance) (numbers es)) (filter (counts w s instance) (numbers es)))
    (at-unique w.terminators once e (present e (inl refl)))
    ∙ apart (is_counted s instance e) (found_among w s instance once es (λ x m. present x (inr m)))
  where
    apart : (b : Bool) → filter (counts w s instance) (numbers es) ≡ numbers (filter (is_counted s instance) es)
        → cond b (e.0 ∷ filter (counts w s instance) (numbers es)) (filter (counts w s instance) (numbers es)) ≡ numbers (cond b (e ∷ filter (is_counted s instance) es) (filter (is_counted s instance) es))
    apart true h = ap (λ ns. e.0 ∷ ns) h
    apart false h = h

-- the numbers of those that a request counts, found by number
pub found_counted : (w : Network) (s : ℕ) (instance : List ℕ) → NoneTwice (numbers w.terminators)
    → filter (counts w s instance) (numbers w.terminators) ≡ numbers (counted w s instance)
found_counted w s instance once = found_among w s instance once w.terminators (λ e m. m)
