-- Laws on how often names stand in lists of attributes.
use Rattle.std.proofs.Common.{◌≡◌, ◌≢◌, ne_eqb, ℕ, ◌+◌, ◌<◌, ◌≤◌, ◌==◌, Bool, true, false, cond, not, List, [], ◌∷◌, ◌++◌, map, Some, refl, sym, ◌∙◌, ap, arith, eqb-true}
use Rattle.std.proofs.lemmas.Bool.{cond-false, false≢true}
use Rattle.std.proofs.lemmas.Grind.{flat_map-append}
use Rattle.std.proofs.lemmas.Option.{same_Some, none-some}
use Rattle.std.specs.List.{flat_map}
use Rattle.ctrl_model.specs.Numbered.{at, with_last, edit_at, without, Between}
use Rattle.entity_store.specs.AttributeUses.{times}
use Rattle.attr_pool.proofs.UseLaws.{times-append}

-- a change at a number below all leaves the records
pub edit_at-below : {R : Type 0} (high : ℕ) (rows : List (ℕ × R)) (low n : ℕ) (g : R → R) → Between low high rows → n < low → edit_at rows n g ≡ rows
edit_at-below high [] low n g b h = refl
edit_at-below high (y ∷ ys) low n g b h =
    let above : y.0 ≢ n = λ e. absurd (omega (arith, b.0, h, e)) in
    let head : cond (y.0 == n) (g y.1) y.1 ≡ y.1 = cond-false (y.0 == n) (g y.1) y.1 (ne_eqb y.0 n above) in
    let tail = edit_at-below high ys (y.0 + 1) n g b.2 (omega (arith, b.0, h)) in
    λ i. (y.0, head i) ∷ tail i

-- where the record at a number is changed, what its attributes were goes, and what they are comes
pub times-edit_at : {R : Type 0} (f : R → List (List ℕ)) (g : R → R) (x : List ℕ) (high : ℕ) (rows : List (ℕ × R)) (low n : ℕ) (r : R) → Between low high rows → at rows n ≡ Some r
    → times x (flat_map (λ row. f row.1) (edit_at rows n g)) + times x (f r) ≡ times x (flat_map (λ row. f row.1) rows) + times x (f (g r))
times-edit_at f g x high [] low n r b e = absurd (none-some r e)
times-edit_at {R} f g x high (y ∷ ys) low n r b e = by (y.0 == n) refl e (times-edit_at f g x high ys (y.0 + 1) n r b.2)
  where
    by : (d : Bool) → (y.0 == n) ≡ d → cond d (Some y.1) (at ys n) ≡ Some r
        → (at ys n ≡ Some r → times x (flat_map (λ row. f row.1) (edit_at ys n g)) + times x (f r) ≡ times x (flat_map (λ row. f row.1) ys) + times x (f (g r)))
        → times x (f (cond d (g y.1) y.1) ++ flat_map (λ row. f row.1) (edit_at ys n g)) + times x (f r) ≡ times x (f y.1 ++ flat_map (λ row. f row.1) ys) + times x (f (g r))
    by true is s k =
        let past : edit_at ys n g ≡ ys = edit_at-below high ys (y.0 + 1) n g b.2 (let same = eqb-true y.0 n is in omega (arith, same)) in
        let same : y.1 ≡ r = same_Some y.1 r s in
        let left : times x (f (g y.1) ++ flat_map (λ row. f row.1) (edit_at ys n g)) ≡ times x (f (g y.1)) + times x (flat_map (λ row. f row.1) ys) =
        times-append x (f (g y.1)) (flat_map (λ row. f row.1) (edit_at ys n g)) ∙ ap (λ zs. times x (f (g y.1)) + times x (flat_map (λ row. f row.1) zs)) past in
        let right = times-append x (f y.1) (flat_map (λ row. f row.1) ys) in
        let old : times x (f y.1) ≡ times x (f r) = ap (λ q. times x (f q)) same in
        let new : times x (f (g y.1)) ≡ times x (f (g r)) = ap (λ q. times x (f (g q))) same in
        omega (arith, left, right, old, new)
    by false is s k =
        let rest = k s in
        let left = times-append x (f y.1) (flat_map (λ row. f row.1) (edit_at ys n g)) in
        let right = times-append x (f y.1) (flat_map (λ row. f row.1) ys) in
        omega (arith, rest, left, right)

-- the attributes of one record are among those of all
pub times-at : {R : Type 0} (f : R → List (List ℕ)) (x : List ℕ) (rows : List (ℕ × R)) (n : ℕ) (r : R) → at rows n ≡ Some r
    → times x (f r) ≤ times x (flat_map (λ row. f row.1) rows)
times-at f x [] n r e = absurd (none-some r e)
times-at {R} f x (y ∷ ys) n r e = by (y.0 == n) e (times-at f x ys n r)
  where
    by : (d : Bool) → cond d (Some y.1) (at ys n) ≡ Some r → (at ys n ≡ Some r → times x (f r) ≤ times x (flat_map (λ row. f row.1) ys))
        → times x (f r) ≤ times x (f y.1 ++ flat_map (λ row. f row.1) ys)
    by true s k =
        let parts = times-append x (f y.1) (flat_map (λ row. f row.1) ys) in
        let old : times x (f y.1) ≡ times x (f r) = ap (λ q. times x (f q)) (same_Some y.1 r s) in omega (arith, parts, old)
    by false s k = let parts = times-append x (f y.1) (flat_map (λ row. f row.1) ys) in let rest = k s in omega (arith, parts, rest)

-- changes that do the same to the record at a number are one
pub edit_at-same : {R : Type 0} (g h : R → R) (high : ℕ) (rows : List (ℕ × R)) (low n : ℕ) (r : R) → Between low high rows → at rows n ≡ Some r → g r ≡ h r
    → edit_at rows n g ≡ edit_at rows n h
edit_at-same g h high [] low n r b e same = refl
edit_at-same {R} g h high (y ∷ ys) low n r b e same = by (y.0 == n) refl e (edit_at-same g h high ys (y.0 + 1) n r b.2)
  where
    by : (d : Bool) → (y.0 == n) ≡ d → cond d (Some y.1) (at ys n) ≡ Some r → (at ys n ≡ Some r → g r ≡ h r → edit_at ys n g ≡ edit_at ys n h)
        → ◌≡◌ {A = List (ℕ × R)} ((y.0, cond d (g y.1) y.1) ∷ edit_at ys n g) ((y.0, cond d (h y.1) y.1) ∷ edit_at ys n h)
    by true is s k =
        let this : y.1 ≡ r = same_Some y.1 r s in
        let low_n : n < y.0 + 1 = let number = eqb-true y.0 n is in omega (arith, number) in
        let head : g y.1 ≡ h y.1 = ap g this ∙ same ∙ ap h (sym this) in
        let tail : edit_at ys n g ≡ edit_at ys n h = edit_at-below high ys (y.0 + 1) n g b.2 low_n ∙ sym (edit_at-below high ys (y.0 + 1) n h b.2 low_n) in
        λ i. (y.0, head i) ∷ tail i
    by false is s k = let tail = k s same in λ i. (y.0, y.1) ∷ tail i

-- the numbers of records that are seen otherwise ascend as theirs do
pub Between-from_map : {R S : Type 0} (f : ℕ × R → S) (high : ℕ) (rows : List (ℕ × R)) (low : ℕ) → Between low high (map (λ row. (row.0, f row)) rows) → Between low high rows
Between-from_map f high [] low b = tt
Between-from_map f high (y ∷ ys) low b = (b.0, b.1, Between-from_map f high ys (y.0 + 1) b.2)

-- with one more record, its attributes come to those of all
pub times-with_last : {R : Type 0} (f : R → List (List ℕ)) (x : List ℕ) (rows : List (ℕ × R)) (n : ℕ) (r : R)
    → times x (flat_map (λ row. f row.1) (with_last rows n r)) ≡ times x (flat_map (λ row. f row.1) rows) + times x (f r)
times-with_last f x rows n r =
    let joined = flat_map-append (λ row. f row.1) rows ((n, r) ∷ []) in
    let all : times x (flat_map (λ row. f row.1) (with_last rows n r)) ≡ times x (flat_map (λ row. f row.1) rows ++ (f r ++ [])) = ap (times x) joined in
    let first = times-append x (flat_map (λ row. f row.1) rows) (f r ++ []) in
    let last = times-append x (f r) [] in
    omega (arith, all, first, last)

-- without a number below all, all records stay
pub without-below : {R : Type 0} (high : ℕ) (rows : List (ℕ × R)) (low n : ℕ) → Between low high rows → n < low → without rows n ≡ rows
without-below high [] low n b h = refl
without-below {R} high (y ∷ ys) low n b h =
    let above : y.0 ≢ n = λ e. absurd (omega (arith, b.0, h, e)) in
    let tail = without-below high ys (y.0 + 1) n b.2 (omega (arith, b.0, h)) in
    by (y.0 == n) (ne_eqb y.0 n above) tail
  where
    by : (d : Bool) → d ≡ false → without ys n ≡ ys → ◌≡◌ {A = List (ℕ × R)} (cond (not d) (y ∷ without ys n) (without ys n)) (y ∷ ys)
    by true e k = absurd (false≢true (sym e))
    by false e k = ap (λ (zs : List (ℕ × R)). y ∷ zs) k

-- without the record at a number, its attributes go
pub times-without : {R : Type 0} (f : R → List (List ℕ)) (x : List ℕ) (high : ℕ) (rows : List (ℕ × R)) (low n : ℕ) (r : R) → Between low high rows → at rows n ≡ Some r
    → times x (flat_map (λ row. f row.1) (without rows n)) + times x (f r) ≡ times x (flat_map (λ row. f row.1) rows)
times-without f x high [] low n r b e = absurd (none-some r e)
times-without {R} f x high (y ∷ ys) low n r b e = by (y.0 == n) refl e (times-without f x high ys (y.0 + 1) n r b.2)
  where
    by : (d : Bool) → (y.0 == n) ≡ d → cond d (Some y.1) (at ys n) ≡ Some r
        → (at ys n ≡ Some r → times x (flat_map (λ row. f row.1) (without ys n)) + times x (f r) ≡ times x (flat_map (λ row. f row.1) ys))
        → times x (flat_map (λ row. f row.1) (cond (not d) (y ∷ without ys n) (without ys n))) + times x (f r) ≡ times x (f y.1 ++ flat_map (λ row. f row.1) ys)
    by true is s k =
        let past : without ys n ≡ ys = without-below high ys (y.0 + 1) n b.2 (let same = eqb-true y.0 n is in omega (arith, same)) in
        let old : times x (f y.1) ≡ times x (f r) = ap (λ q. times x (f q)) (same_Some y.1 r s) in
        let left : times x (flat_map (λ row. f row.1) (without ys n)) ≡ times x (flat_map (λ row. f row.1) ys) = ap (λ zs. times x (flat_map (λ row. f row.1) zs)) past in
        let right = times-append x (f y.1) (flat_map (λ row. f row.1) ys) in
        omega (arith, left, right, old)
    by false is s k =
        let rest = k s in
        let left = times-append x (f y.1) (flat_map (λ row. f row.1) (without ys n)) in
        let right = times-append x (f y.1) (flat_map (λ row. f row.1) ys) in
        omega (arith, rest, left, right)
