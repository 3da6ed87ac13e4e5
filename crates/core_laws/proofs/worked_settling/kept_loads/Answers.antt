use Rattle.std.proofs.Common.{◌≡◌, ℕ, ◌+◌, ◌==◌, Bool, true, false, cond, is_some, None, Some, unwrap_or, refl, sym, arith}
use Rattle.std.proofs.lemmas.Bool.{false≢true}
use Rattle.core_laws.specs.WorkedSettling.{offer}
use Rattle.core_laws.proofs.worked_settling.kept_loads.Goals as goal

-- whether a number is the terminator's, and what is open there then
all_counted : (b : Bool) → ◌≡◌ {A = ℕ} (unwrap_or (cond b (Some 2) None) 0) (0 + cond b 1 0 + cond b 1 0)
all_counted true = refl
all_counted false = refl

one_lacks : (b : Bool) → ◌≡◌ {A = ℕ} (unwrap_or (cond b (Some 1) None) 0 + cond b 1 0) (0 + cond b 1 0 + cond b 1 0)
one_lacks true = refl
one_lacks false = refl

none_without : (b : Bool) → is_some (cond b (Some offer) None) ≡ false → ◌≡◌ {A = ℕ} (0 + cond b 1 0 + cond b 1 0) 0
none_without true e = absurd (false≢true (sym e))
none_without false e = refl

one_is_not_two : ◌≡◌ {A = ℕ} 1 2 → ⊥
one_is_not_two e = absurd (omega arith)

pub returns-clause-ends : goal.returns-clause-ends
returns-clause-ends c = record { absent = λ n none. none_without (1 == n) none; few = omega arith }

pub returns-clause-both : goal.returns-clause-both
returns-clause-both c n = all_counted (1 == n)

pub returns-clause-one : goal.returns-clause-one
returns-clause-one c counts = one_is_not_two (counts 1)

pub returns-clause-but_none : goal.returns-clause-but_none
returns-clause-but_none c n = all_counted (1 == n)

pub returns-clause-but_one : goal.returns-clause-but_one
returns-clause-but_one c n = one_lacks (1 == n)

pub returns-clause-but_two : goal.returns-clause-but_two
returns-clause-but_two c lack = one_is_not_two (lack 1)

pub returns-clause-another : goal.returns-clause-another
returns-clause-another c lack = one_is_not_two (lack 1)
