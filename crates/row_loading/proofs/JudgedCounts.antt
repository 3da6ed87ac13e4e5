-- A count that a row tells is wrong, or it is the one that is kept.
use Rattle.std.proofs.Common.{◌≡◌, ◌==◌, ℕ, Bool, true, false, not, None, Some, refl, sym, ◌∙◌, ap, eqb-true}
use Rattle.std.proofs.lemmas.Bool.{eq-eqb}
use Rattle.state_building.specs.declared.flaws.Flaw.TheVariants.{WrongCount}
use Rattle.state_building.specs.JoinedRecords.{flaw_if}

pub judged_wrong : (n told m : ℕ) → n ≡ m → (n ≡ told → ⊥) → Some WrongCount ≡ flaw_if (not (m == told)) WrongCount None
judged_wrong n told m is differs = by (m == told) refl
  where
    by : (c : Bool) → (m == told) ≡ c → Some WrongCount ≡ flaw_if (not c) WrongCount None
    by true e = absurd (differs (is ∙ eqb-true m told e))
    by false e = refl

pub judged_right : (n told m : ℕ) → n ≡ m → n ≡ told → None ≡ flaw_if (not (m == told)) WrongCount None
judged_right n told m is same = ap (λ c. flaw_if (not c) WrongCount None) (sym (eq-eqb m told (sym is ∙ same)))
