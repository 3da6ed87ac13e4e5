-- Records that are gone through by their numbers.
use Rattle.std.proofs.Common.{◌≡◌, ◌≢◌, ℕ, ◌+◌, ◌<◌, ◌==◌, List, [], ◌∷◌, None, Some, inl, inr, sym, ◌∙◌, ap, arith, length, get_or, eq-eqb, ne_eqb}
use Rattle.std.proofs.lemmas.Bool.{cond-true, cond-false}
use Rattle.std.proofs.lemmas.Option.{none-some}
use Rattle.ctrl_model.specs.Membership.{Among}
use Rattle.ctrl_model.specs.Numbered.{at, numbers, Between}
use Rattle.ctrl_model.proofs.Members.{Among-get_or, by_map}
use Rattle.ctrl_model.proofs.NumberedLaws.{at-within}

-- each record stands at its number
pub at_among : {R : Type 0} (high : ℕ) (rows : List (ℕ × R)) (low n : ℕ) (r : R) → Between low high rows → Among {X = ℕ × R} (n, r) rows → at rows n ≡ Some r
at_among high [] low n r b m = absurd m
at_among high (x ∷ rows) low n r b (inl e) =
    cond-true (x.0 == n) (Some x.1) (at rows n) (eq-eqb x.0 n (ap (λ p. p.0) e)) ∙ ap Some (ap (λ p. p.1) e)
at_among high (x ∷ rows) low n r b (inr m) =
    let later = at_among high rows (x.0 + 1) n r b.2 m in
    let past = at-within high rows (x.0 + 1) n r b.2 later in
    let apart : x.0 ≢ n = λ e. absurd (omega (arith, past.0, e)) in
    cond-false (x.0 == n) (Some x.1) (at rows n) (ne_eqb x.0 n apart) ∙ later

-- a record stands at each number
pub number_stands : {R : Type 0} (high : ℕ) (rows : List (ℕ × R)) (n : ℕ) → Between 1 high rows → Among n (numbers rows) → at rows n ≡ None → ⊥
number_stands {R} high rows n b m none = by_map (λ (x : ℕ × R). x.0) rows n m (λ y among e.
    none-some y.1 (sym none ∙ ap (at rows) (sym e) ∙ at_among high rows 1 y.0 y.1 b among))

pub numbered_stands : {R : Type 0} (high : ℕ) (rows : List (ℕ × R)) (i : ℕ) → Between 1 high rows → i < length (numbers rows) → at rows (get_or (numbers rows) i 0) ≡ None → ⊥
numbered_stands high rows i b h = number_stands high rows (get_or (numbers rows) i 0) b (Among-get_or (numbers rows) i 0 h)
