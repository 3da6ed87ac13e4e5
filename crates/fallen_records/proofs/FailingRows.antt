-- Which rows fail a test: none where each passes, those that another test names, or the last one alone.
use Rattle.std.proofs.Common.{◌≡◌, ℕ, Bool, true, false, cond, not, List, [], ◌∷◌, ◌++◌, Some, refl, ◌∙◌, ap}
use Rattle.std.proofs.lemmas.List.{map-append}
use Rattle.std.proofs.lemmas.List.Elements.{filter-append}
use Rattle.std.specs.List.{filter}
use Rattle.ctrl_model.specs.Membership.{Among}
use Rattle.ctrl_model.specs.Numbered.{at, numbers, with_last, Between}
use Rattle.ctrl_model.proofs.Members.{Among-filter, at-row}
use Rattle.ctrl_model.proofs.NumberedLaws.{Between-filter}
use Rattle.record_tables.proofs.GoneLaws.{filter_among}
use Rattle.record_tables.proofs.NumberLoops.{at_among}

filter_none : {X : Type 0} (xs : List X) → filter (λ _. false) xs ≡ []
filter_none [] = refl
filter_none (x ∷ xs) = filter_none xs

module _ {R : Type 0} (p : ℕ × R → Bool) (rows : List (ℕ × R)) where
  -- the numbers of the rows that fail
  abbrev pub failing : List ℕ
  failing = numbers (filter (λ row. not (p row)) rows)

  pub none_fails : ((x : ℕ × R) → Among x rows → p x ≡ true) → failing ≡ []
  none_fails h = ap numbers (filter_among (λ x. not (p x)) (λ _. false) rows (λ x m. ap not (h x m)) ∙ filter_none rows)

  pub those_fail : (q : ℕ × R → Bool) → ((x : ℕ × R) → Among x rows → p x ≡ not (q x)) → failing ≡ numbers (filter q rows)
  those_fail q h = ap numbers (filter_among (λ x. not (p x)) q rows (λ x m. ap not (h x m) ∙ twice (q x)))
    where
      twice : (b : Bool) → not (not b) ≡ b
      twice true = refl
      twice false = refl

  -- a record that passes is found among those that pass
  pub at-passes : (high n : ℕ) (r : R) → Between 1 high rows → at rows n ≡ Some r → p (n, r) ≡ true → at (filter p rows) n ≡ Some r
  at-passes high n r b e t = at_among high (filter p rows) 1 n r (Between-filter p high rows 1 b) (Among-filter p rows (n, r) (at-row rows n r e) t)

-- where all others pass, the last record alone may fail
pub last_fails : {R : Type 0} (p : ℕ × R → Bool) (rows : List (ℕ × R)) (n : ℕ) (r : R) → ((x : ℕ × R) → Among x rows → p x ≡ true)
    → failing p (with_last rows n r) ≡ cond (p (n, r)) [] (n ∷ [])
last_fails {R} p rows n r h =
    ap numbers (filter-append (λ x. not (p x)) rows ((n, r) ∷ []))
    ∙ map-append (λ (x : ℕ × R). x.0) (filter (λ x. not (p x)) rows) (filter (λ x. not (p x)) ((n, r) ∷ []))
    ∙ ap (λ ns. ns ++ numbers (filter (λ x. not (p x)) ((n, r) ∷ []))) (none_fails p rows h)
    ∙ by (p (n, r))
  where
    by : (b : Bool) → numbers (cond (not b) ((n, r) ∷ []) []) ≡ cond b [] (n ∷ [])
    by true = refl
    by false = refl
