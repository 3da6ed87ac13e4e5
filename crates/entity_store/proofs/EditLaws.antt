-- A law of a change of one record of a table.
use Rattle.std.proofs.Common.{◌≡◌, ◌≢◌, ℕ, ◌+◌, ◌==◌, cond, List, [], ◌∷◌, ap, arith, eq-eqb, ne_eqb, refl}
use Rattle.std.proofs.lemmas.Bool.{cond-false}
use Rattle.ctrl_model.specs.Numbered.{with_last, edit_at, Between}

-- a change of the last record alone
pub edit_at-with_last : {R : Type 0} (f : R → R) (high : ℕ) (rows : List (ℕ × R)) (low : ℕ) (r : R) → Between low high rows → edit_at (with_last rows high r) high f ≡ with_last rows high (f r)
edit_at-with_last f high [] low r b = ap (λ c. (high, cond c (f r) r) ∷ []) (eq-eqb high high refl)
edit_at-with_last f high (x ∷ rows) low r b =
    let other : x.0 ≢ high = λ e. absurd (omega (arith, b.1, e)) in
    let head : cond (x.0 == high) (f x.1) x.1 ≡ x.1 = cond-false (x.0 == high) (f x.1) x.1 (ne_eqb x.0 high other) in
    let tail = edit_at-with_last f high rows (x.0 + 1) r b.2 in
    λ i. (x.0, head i) ∷ tail i
