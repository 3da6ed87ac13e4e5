-- Tallies of rows that are read by their numbers.
use Rattle.std.proofs.Common.{◌≡◌, ◌≢◌, ℕ, zero, suc, ◌+◌, ◌<◌, ◌≤◌, ◌==◌, nat_lt, Bool, true, false, cond, List, [], ◌∷◌, ◌++◌, length, map, take, get_or, None, Some, refl, sym, ◌∙◌, ap, arith, add-one, ne_eqb, eq-eqb}
use Rattle.std.proofs.lemmas.Bool.{cond-true, cond-false}
use Rattle.std.proofs.lemmas.List.Elements.{filter-append}
use Rattle.std.proofs.lemmas.List.{map-append, length-map}
use Rattle.std.proofs.lemmas.Option.{same_Some}
use Rattle.std.specs.List.{filter}
use Rattle.ctrl_model.specs.declared.replies.Tally.{Tally}
use Rattle.ctrl_model.specs.Numbered.{at, numbers, Between}
use Rattle.ctrl_model.specs.State.{Entity}
use Rattle.ctrl_model.specs.ShowCommands.{tally_of, tallies}
use Rattle.record_tables.proofs.NumberLoops.{numbered_stands}

-- ---- rows read by their numbers

-- the record of the number at a place
pub record Placed {R : Type 0} (rows : List (ℕ × R)) (i : ℕ) : Type 0 where
  pub row : R
  pub stands : at rows (get_or (numbers rows) i 0) ≡ Some row
  pub next : take (suc i) rows ≡ take i rows ++ (get_or (numbers rows) i 0, row) ∷ []

number_from : {R : Type 0} (high : ℕ) (rows : List (ℕ × R)) (low i : ℕ) → Between low high rows → i < length rows → low ≤ get_or (numbers rows) i 0
number_from high [] low i b h = absurd (omega arith)
number_from high (x ∷ rows) low zero b h = b.0
number_from high (x ∷ rows) low (suc i) b h = let past = number_from high rows (x.0 + 1) i b.2 (omega (arith, h)) in omega (arith, past, b.0)

pub placed : {R : Type 0} (high : ℕ) (rows : List (ℕ × R)) (low i : ℕ) → Between low high rows → i < length rows → Placed rows i
placed high [] low i b h = absurd (omega arith)
placed high (x ∷ rows) low zero b h = record { row = x.1; stands = cond-true (x.0 == x.0) (Some x.1) (at rows x.0) (eq-eqb x.0 x.0 refl); next = refl }
placed {R} high (x ∷ rows) low (suc i) b h = by (placed high rows (x.0 + 1) i b.2 (omega (arith, h)))
  where
    above : x.0 + 1 ≤ get_or (numbers rows) i 0
    above = number_from high rows (x.0 + 1) i b.2 (omega (arith, h))

    other : x.0 ≢ get_or (numbers rows) i 0
    other e = absurd (omega (arith, above, e))

    by : Placed rows i → Placed (x ∷ rows) (suc i)
    by p = record {
      row = p.row;
      stands = cond-false (x.0 == get_or (numbers rows) i 0) (Some x.1) (at rows (get_or (numbers rows) i 0)) (ne_eqb x.0 (get_or (numbers rows) i 0) other) ∙ p.stands;
      next = ap (λ (ys : List (ℕ × R)). x ∷ ys) p.next;
    }

-- the tallies of some rows and then of others
tallies-append : (counts : ℕ → ℕ) (xs ys : List (ℕ × Entity)) → tallies counts (xs ++ ys) ≡ tallies counts xs ++ tallies counts ys
tallies-append counts xs ys =
    ap (map (tally_of counts)) (filter-append (λ row. nat_lt 0 (counts row.0)) xs ys)
    ∙ map-append (tally_of counts) (filter (λ row. nat_lt 0 (counts row.0)) xs) (filter (λ row. nat_lt 0 (counts row.0)) ys)

-- the tally of one entity, if it has a count
abbrev pub tally_if : (ℕ → ℕ) → ℕ → List ℕ → List Tally
tally_if counts n name = cond (nat_lt 0 (counts n)) (record { name = name; count = counts n } ∷ []) []

tallies-one : (counts : ℕ → ℕ) (n : ℕ) (e : Entity) → tallies counts ((n, e) ∷ []) ≡ tally_if counts n e.name
tallies-one counts n e = by (nat_lt 0 (counts n))
  where
    by : (b : Bool) → map (tally_of counts) (cond b ((n, e) ∷ []) []) ≡ cond b (record { name = e.name; count = counts n } ∷ []) []
    by true = refl
    by false = refl

-- the tallies of the rows up to a place, and then of the entity there
pub tallies-next : (counts : ℕ → ℕ) (high : ℕ) (rows : List (ℕ × Entity)) (i : ℕ) (e : Entity) → Between 1 high rows → i < length rows
    → at rows (get_or (numbers rows) i 0) ≡ Some e
    → tallies counts (take (i + 1) rows) ≡ tallies counts (take i rows) ++ tally_if counts (get_or (numbers rows) i 0) e.name
tallies-next counts high rows i e b h stands = by (placed high rows 1 i b h)
  where
    n : ℕ
    n = get_or (numbers rows) i 0

    by : Placed rows i → tallies counts (take (i + 1) rows) ≡ tallies counts (take i rows) ++ tally_if counts n e.name
    by p =
        let same : p.row ≡ e = same_Some p.row e (sym p.stands ∙ stands) in
        ap (λ j. tallies counts (take j rows)) (add-one i) ∙ ap (tallies counts) p.next
        ∙ tallies-append counts (take i rows) ((n, p.row) ∷ []) ∙ ap (λ ts. tallies counts (take i rows) ++ ts) (tallies-one counts n p.row)
        ∙ ap (λ (r : Entity). tallies counts (take i rows) ++ tally_if counts n r.name) same

-- numbers that are those of rows: each stands for one of them
pub each_stands : {R : Type 0} (high : ℕ) (rows : List (ℕ × R)) (ns : List ℕ) (i : ℕ) → Between 1 high rows → ns ≡ numbers rows → i < length ns → None ≡ at rows (get_or ns i 0) → ⊥
each_stands high rows ns i b same h absent =
    let many : length ns ≡ length (numbers rows) = ap length same in
    numbered_stands high rows i b (omega (arith, h, many)) (sym (absent ∙ ap (λ ms. at rows (get_or ms i 0)) same))

-- a tally more is told of the entity of a number
pub tallied : (counts : ℕ → ℕ) (high : ℕ) (rows : List (ℕ × Entity)) (ns : List ℕ) (i k : ℕ) (e : Entity) (before after : List Tally) → Between 1 high rows → ns ≡ numbers rows → i < length ns
    → Some e ≡ at rows (get_or ns i 0) → k ≡ counts (get_or ns i 0) → before ≡ tallies counts (take i rows)
    → after ≡ before ++ cond (nat_lt 0 k) (record { name = e.name; count = k } ∷ []) [] → after ≡ tallies counts (take (i + 1) rows)
tallied counts high rows ns i k e before after b same h stands count first more =
    more
    ∙ (λ j. first j ++ cond (nat_lt 0 (count j)) (record { name = e.name; count = count j } ∷ []) [])
    ∙ ap (λ ms. tallies counts (take i rows) ++ tally_if counts (get_or ms i 0) e.name) same
    ∙ sym (tallies-next counts high rows i e b (omega (arith, h, many)) (sym (stands ∙ ap (λ ms. at rows (get_or ms i 0)) same)))
  where
    many : length ns ≡ length rows
    many = ap length same ∙ length-map rows (λ row. row.0)
