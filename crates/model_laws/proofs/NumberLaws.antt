-- Laws on numbered maps whose numbers are without repeats.
use Rattle.std.proofs.Common.{◌≡◌, ℕ, ◌+◌, ◌≤◌, ◌==◌, inl, inr, List, [], ◌∷◌, Some, sym, ◌∙◌, ap, subst, arith, eq-eqb, ne_eqb}
use Rattle.std.proofs.lemmas.Bool.{cond-true, cond-false}
use Rattle.ctrl_model.specs.Membership.{Among}
use Rattle.ctrl_model.specs.Numbered.{at, numbers, Between}
use Rattle.ctrl_model.specs.PlainPaths.{NoneTwice}
use Rattle.ctrl_model.proofs.Members.{Among-map}

-- a record of the map is the one at its number
pub at-unique : {R : Type 0} (rows : List (ℕ × R)) → NoneTwice (numbers rows) → (row : ℕ × R) → Among row rows → at rows row.0 ≡ Some row.1
at-unique [] once row m = absurd m
at-unique (x ∷ rows) once row (inl e) =
    cond-true (x.0 == row.0) (Some x.1) (at rows row.0) (eq-eqb x.0 row.0 (ap (λ (y : ℕ × _). y.0) e)) ∙ ap (λ (y : ℕ × _). Some y.1) e
at-unique {R} (x ∷ rows) once row (inr m) =
    cond-false (x.0 == row.0) (Some x.1) (at rows row.0)
    (ne_eqb x.0 row.0 (λ e. once.0 (subst (λ n. Among n (numbers rows)) (sym e) (Among-map (λ (y : ℕ × R). y.0) rows row m))))
    ∙ at-unique rows once.1 row m

-- numbers that ascend are without repeats
pub Between-least : {R : Type 0} (low high : ℕ) (rows : List (ℕ × R)) (n : ℕ) → Between low high rows → Among n (numbers rows) → low ≤ n
Between-least low high [] n b m = absurd m
Between-least low high (x ∷ rows) n b (inl e) = subst (λ k. low ≤ k) e b.0
Between-least low high (x ∷ rows) n b (inr m) = below low x.0 n b.0 (Between-least (x.0 + 1) high rows n b.2 m)
  where
    below : (a b c : ℕ) → a ≤ b → b + 1 ≤ c → a ≤ c
    below a b c p q = omega arith

pub Between-none_twice : {R : Type 0} (low high : ℕ) (rows : List (ℕ × R)) → Between low high rows → NoneTwice (numbers rows)
Between-none_twice low high [] b = tt
Between-none_twice low high (x ∷ rows) b = (λ m. not_below x.0 (Between-least (x.0 + 1) high rows x.0 b.2 m), Between-none_twice (x.0 + 1) high rows b.2)
  where
    not_below : (n : ℕ) → n + 1 ≤ n → ⊥
    not_below n h = absurd (omega arith)
