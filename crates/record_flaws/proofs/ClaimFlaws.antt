-- The flaws of an intercept in a state that has the services of a store of entities.
use Rattle.std.proofs.Common.{◌≡◌, ℕ, ◌+◌, ◌<◌, ◌≤◌, ◌&&◌, Bool, true, false, not, nat_lt, List, [], ◌∷◌, ◌++◌, Option, None, Some, option_map, refl, sym, ◌∙◌, ap, subst, arith, ltb-true, lt-ltb}
use Rattle.std.proofs.lemmas.Bool.{and_parts, and_from}
use Rattle.std.specs.Option.{option_map_or}
use Rattle.ctrl_model.specs.declared.intercepts.Intercept.{Intercept}
use Rattle.ctrl_model.specs.declared.numbering.ServiceNo.{ServiceNo}
use Rattle.ctrl_model.specs.InterceptForm.{is_intercept}
use Rattle.ctrl_model.specs.Numbered.{is_present, Between}
use Rattle.ctrl_model.specs.State.{State}
use Rattle.state_building.specs.declared.flaws.Flaw.TheVariants.{NoRecord, OutOfOrder, Hanging}
use Rattle.state_building.specs.JoinedRecords.{is_above_all, flaw_if, flaw_of_intercept}
use Rattle.record_flaws.specs.LastClaims.{IsLast}

-- A number is above all that ascend exactly where it is above the last of them.
below_last : (low high : ℕ) (before : List (ℕ × Intercept)) (n m : ℕ) (i : Intercept) → Between low high (before ++ (n, i) ∷ []) → nat_lt n m ≡ true
    → is_above_all m (before ++ (n, i) ∷ []) ≡ true
below_last low high [] n m i b h = and_from (nat_lt n m) true h refl
below_last low high (x ∷ xs) n m i b h =
    let last = first_least (x.0 + 1) high xs n i b.2 in
    let above = ltb-true n m h in
    and_from (nat_lt x.0 m) (is_above_all m (xs ++ (n, i) ∷ [])) (lt-ltb x.0 m (omega (arith, last, above))) (below_last (x.0 + 1) high xs n m i b.2 h)
  where
    first_least : (low high : ℕ) (before : List (ℕ × Intercept)) (n : ℕ) (i : Intercept) → Between low high (before ++ (n, i) ∷ []) → low ≤ n
    first_least low high [] n i b = b.0
    first_least low high (x ∷ xs) n i b = let l = first_least (x.0 + 1) high xs n i b.2 in let k = b.0 in omega (arith, l, k)

above_last : (before : List (ℕ × Intercept)) (n m : ℕ) (i : Intercept) → is_above_all m (before ++ (n, i) ∷ []) ≡ true → nat_lt n m ≡ true
above_last [] n m i h = (and_parts (nat_lt n m) true h).0
above_last (x ∷ xs) n m i h = above_last xs n m i (and_parts (nat_lt x.0 m) (is_above_all m (xs ++ (n, i) ∷ [])) h).1

same_tests : (a b : Bool) → (a ≡ true → b ≡ true) → (b ≡ true → a ≡ true) → a ≡ b
same_tests true b f g = sym (f refl)
same_tests false true f g = g refl
same_tests false false f g = refl

behind_last : (last : Option ℕ) (next m : ℕ) (is : List (ℕ × Intercept)) → IsLast last next is → option_map_or (λ n. nat_lt n m) last true ≡ is_above_all m is
behind_last None next m is e = sym (ap (is_above_all m) e)
behind_last (Some n) next m is l =
    same_tests (nat_lt n m) (is_above_all m (l.1.0 ++ (n, l.1.1) ∷ []))
    (below_last 1 next l.1.0 n m l.1.1 (moved l.1.2 l.0)) (above_last l.1.0 n m l.1.1)
    ∙ sym (ap (is_above_all m) l.1.2)
  where
    moved : {xs ys : List (ℕ × Intercept)} → xs ≡ ys → Between 1 next xs → Between 1 next ys
    moved e b = subst (λ (zs : List (ℕ × Intercept)). Between 1 next zs) e b

pub said_behind : (last : Option ServiceNo) (next m : ℕ) (is : List (ℕ × Intercept)) → IsLast (option_map (λ n. n.0) last) next is
    → option_map_or (λ n. nat_lt n.0 m) last true ≡ is_above_all m is
said_behind None next m is l = behind_last None next m is l
said_behind (Some n) next m is l = behind_last (Some n.0) next m is l

-- What is found of an intercept gives its flaw.
pub told_claim : (behind there : Bool) (m : ℕ) (i : Intercept) (s : State) → behind ≡ is_above_all m s.intercepts → is_intercept i ≡ true → there ≡ is_present s.services.rows m
    → flaw_if (not behind) OutOfOrder (flaw_if (not there) Hanging None) ≡ flaw_of_intercept m i s
told_claim behind there m i s behind_is form there_is =
    λ j. flaw_if (not (behind_is j)) OutOfOrder (flaw_if (not (sym form j)) NoRecord (flaw_if (not (there_is j)) Hanging None))
