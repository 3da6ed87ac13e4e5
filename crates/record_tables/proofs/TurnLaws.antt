-- Laws of changed tables, and of those without some numbers: their numbers, and what stands at one.
use Rattle.std.proofs.Common.{◌≡◌, ℕ, ◌≤◌, ◌==◌, Bool, true, false, cond, not, List, [], ◌∷◌, ◌++◌, Option, None, Some, inl, inr, refl, sym, ◌∙◌, ap, arith, eqb-true}
use Rattle.std.proofs.lemmas.List.{map-append}
use Rattle.std.specs.List.{filter}
use Rattle.std.specs.Option.{option_map}
use Rattle.ctrl_model.specs.Membership.{Among}
use Rattle.ctrl_model.specs.Numbered.{Table, at, numbers, with_last, edit_at, Between}
use Rattle.ctrl_model.specs.Walks.{is_among}
use Rattle.ctrl_model.proofs.Members.{Among-from_test}
use Rattle.ctrl_model.proofs.NumberedLaws.{at-past, at-with_last, at-edit_at, at-without, at-with_last-other, at-edit_at-other, at-without-other, Between-with_last, Between-edit_at, Between-without, Between-filter}
use Rattle.record_tables.specs.AfterChange.{without_numbers, touched_numbers, unless_gone}
use Rattle.record_tables.proofs.GoneLaws.{touched_are}
use Rattle.record_tables.specs.declared.turns.Turn.{Turn}
use Rattle.record_tables.specs.declared.turns.Turn.TheVariants.{Adds, Sets, Removes, Keeps}
use Rattle.record_tables.specs.Turns.{left_of, record_turned, turned, turned_number, turned_table}

module _ {R : Type 0} where
  pub numbers-edit_at : (rows : List (ℕ × R)) (n : ℕ) (f : R → R) → numbers (edit_at rows n f) ≡ numbers rows
  numbers-edit_at [] n f = refl
  numbers-edit_at (x ∷ rows) n f = ap (λ ns. x.0 ∷ ns) (numbers-edit_at rows n f)

  -- where the numbers decide which records are left
  pub numbers-filter : (p : ℕ → Bool) (rows : List (ℕ × R)) → numbers (filter (λ row. p row.0) rows) ≡ filter p (numbers rows)
  numbers-filter p [] = refl
  numbers-filter p (x ∷ rows) = by (p x.0) (numbers-filter p rows)
    where
      by : (b : Bool) → numbers (filter (λ row. p row.0) rows) ≡ filter p (numbers rows)
          → numbers (cond b (x ∷ filter (λ row. p row.0) rows) (filter (λ row. p row.0) rows)) ≡ cond b (x.0 ∷ filter p (numbers rows)) (filter p (numbers rows))
      by true h = ap (λ ns. x.0 ∷ ns) h
      by false h = h

  pub at-filter : (p : ℕ → Bool) (rows : List (ℕ × R)) (n : ℕ) → at (filter (λ row. p row.0) rows) n ≡ cond (p n) (at rows n) None
  at-filter p [] n = by (p n)
    where
      by : (b : Bool) → ◌≡◌ {A = Option R} None (cond b None None)
      by true = refl
      by false = refl
  at-filter p (x ∷ rows) n = by (x.0 == n) refl (p x.0) refl (at-filter p rows n)
    where
      by : (c : Bool) → (x.0 == n) ≡ c → (b : Bool) → p x.0 ≡ b → at (filter (λ row. p row.0) rows) n ≡ cond (p n) (at rows n) None
          → at (cond b (x ∷ filter (λ row. p row.0) rows) (filter (λ row. p row.0) rows)) n ≡ cond (p n) (cond c (Some x.1) (at rows n)) None
      by true same true e h =
          ap (λ d. cond d (Some x.1) (at (filter (λ row. p row.0) rows) n)) same
          ∙ sym (ap (λ d. cond d (Some x.1) None) (ap p (sym (eqb-true x.0 n same)) ∙ e))
      by true same false e h =
          let goes : p n ≡ false = ap p (sym (eqb-true x.0 n same)) ∙ e in
          h ∙ ap (λ d. cond d (at rows n) None) goes ∙ sym (ap (λ d. cond d (Some x.1) None) goes)
      by false other true e h = ap (λ d. cond d (Some x.1) (at (filter (λ row. p row.0) rows) n)) other ∙ h
      by false other false e h = h

  -- one more record, under the number behind all others
  pub at-new : (rows : List (ℕ × R)) (next n : ℕ) (r : R) → Between 1 next rows → at (with_last rows next r) n ≡ cond (next == n) (Some r) (at rows n)
  at-new rows next n r b = at-with_last rows next n r (at-past next rows 1 next b (omega arith))

pub numbers-with_last : {R : Type 0} (rows : List (ℕ × R)) (n : ℕ) (r : R) → numbers (with_last rows n r) ≡ numbers rows ++ n ∷ []
numbers-with_last rows n r = map-append (λ x. x.0) rows ((n, r) ∷ [])

-- ---- a table after one change

module _ {R : Type 0} (set : R → R) where
  pub at-turned : (turn : Turn R) (t : Table R) (n : ℕ) → Between 1 t.next t.rows → record_turned set turn t.next n (at t.rows n) ≡ at (turned_table set turn t).rows n
  at-turned (Adds r) t n b = sym (at-new t.rows t.next n r b)
  at-turned (Sets m) t n b = sym (at-edit_at t.rows m n set)
  at-turned (Removes m) t n b = sym (at-without t.next t.rows 1 m n b)
  at-turned Keeps t n b = refl

  -- it touches its own number alone
  pub untouched-turned : (turn : Turn R) (t : Table R) (n : ℕ) → (turned_number turn t.next ≡ Some n → ⊥) → at t.rows n ≡ at (turned_table set turn t).rows n
  untouched-turned (Adds r) t n misses = sym (at-with_last-other t.rows t.next n r (λ same. misses (ap Some (sym same))))
  untouched-turned (Sets m) t n misses = sym (at-edit_at-other t.rows m n set (λ same. misses (ap Some (sym same))))
  untouched-turned (Removes m) t n misses = sym (at-without-other t.rows m n (λ same. misses (ap Some (sym same))))
  untouched-turned Keeps t n misses = refl

  pub numbers-turned : (turn : Turn R) (t : Table R) → turned turn t.next (numbers t.rows) ≡ numbers (turned_table set turn t).rows
  numbers-turned (Adds r) t = sym (numbers-with_last t.rows t.next r)
  numbers-turned (Sets m) t = sym (numbers-edit_at t.rows m set)
  numbers-turned (Removes m) t = sym (numbers-filter (λ n. not (n == m)) t.rows)
  numbers-turned Keeps t = refl

  pub ordered-turned : (turn : Turn R) (t : Table R) → 1 ≤ t.next → Between 1 t.next t.rows → Between 1 (turned_table set turn t).next (turned_table set turn t).rows
  ordered-turned (Adds r) t l b = Between-with_last t.next t.rows 1 r l b
  ordered-turned (Sets m) t l b = Between-edit_at t.next t.rows 1 m set b
  ordered-turned (Removes m) t l b = Between-without t.next t.rows 1 m b
  ordered-turned Keeps t l b = b

-- ---- a table without some numbers

pub unless_gone-map : {V W : Type 0} (f : V → W) (n : ℕ) (gone : List ℕ) (o : Option V) → option_map f (unless_gone n gone o) ≡ unless_gone n gone (option_map f o)
unless_gone-map {V} {W} f n gone o = by (is_among n gone)
  where
    by : (b : Bool) → option_map f (cond b None o) ≡ cond b None (option_map f o)
    by true = refl
    by false = refl

module _ {R : Type 0} (gone : List ℕ) (t : Table R) where
  pub numbers-left : left_of gone (numbers t.rows) ≡ numbers (without_numbers gone t).rows
  numbers-left = sym (numbers-filter (λ n. not (is_among n gone)) t.rows)

  pub ordered-left : (low high : ℕ) → Between low high t.rows → Between low high (without_numbers gone t).rows
  ordered-left low high b = Between-filter (λ (row : ℕ × R). not (is_among row.0 gone)) high t.rows low b

  pub at-unless : (n : ℕ) → unless_gone n gone (at t.rows n) ≡ at (without_numbers gone t).rows n
  at-unless n = by (is_among n gone) ∙ sym (at-filter (λ m. not (is_among m gone)) t.rows n)
    where
      by : (b : Bool) → cond b None (at t.rows n) ≡ cond (not b) (at t.rows n) None
      by true = refl
      by false = refl

  at-left : (n : ℕ) → is_among n gone ≡ false → at t.rows n ≡ at (without_numbers gone t).rows n
  at-left n e = sym (ap (λ b. cond b None (at t.rows n)) e) ∙ at-unless n

-- where one change leaves all numbers but one as they are, nothing differs but there and at the numbers that are gone
pub elsewhere : {R : Type 0} (changed : Option ℕ) (gone : List ℕ) (before after : Table R) → ((n : ℕ) → (changed ≡ Some n → ⊥) → at before.rows n ≡ at after.rows n)
    → (n : ℕ) → (Among n (touched_numbers changed gone) → ⊥) → at before.rows n ≡ at (without_numbers gone after).rows n
elsewhere changed gone before after untouched n misses =
    untouched n (λ e. misses ((touched_are n changed gone).1 (inl e))) ∙ at-left gone after n (by (is_among n gone) refl)
  where
    by : (b : Bool) → is_among n gone ≡ b → b ≡ false
    by false e = refl
    by true e = absurd (misses ((touched_are n changed gone).1 (inr (Among-from_test n gone e))))
