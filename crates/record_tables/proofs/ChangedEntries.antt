-- Laws of entries that are changed one after the other.
use Rattle.std.proofs.Common.{◌≡◌, ℕ, zero, suc, ◌+◌, ◌<◌, List, [], ◌∷◌, length, get_or, slice_get, Some, refl, ◌∙◌, ap, sym, arith, add-one}
use Rattle.std.specs.Prelude.{⊤}
use Rattle.std.proofs.lemmas.Option.{same_Some, none-some, slice_get-get_or}
use Rattle.indexmap.specs.IndexMap.{set_value_at}
use Rattle.ctrl_model.specs.Numbered.{map_each, numbers, Between}
use Rattle.record_tables.specs.Entries.{Entry, numbered_records, AreNamed}

module _ {R : Type 0} (P : R → R → Type 0) where
  -- the record of an entry is changed, and its key and its number stay
  pub record IsChanged (x y : Entry R) : Type 0 where
    pub after : R
    pub changed : P x.1.1 after
    pub is : y ≡ (x.0, (x.1.0, after))

  -- the entries before a place are changed, and the others stay
  abbrev pub ChangedTo : List (Entry R) → List (Entry R) → ℕ → Type 0
  ChangedTo [] [] n = ⊤
  ChangedTo [] (y ∷ ys) n = ⊥
  ChangedTo (x ∷ xs) [] n = ⊥
  ChangedTo (x ∷ xs) (y ∷ ys) zero = (y ≡ x) × ChangedTo xs ys zero
  ChangedTo (x ∷ xs) (y ∷ ys) (suc n) = IsChanged x y × ChangedTo xs ys n

  pub unchanged : (xs : List (Entry R)) → ChangedTo xs xs 0
  unchanged [] = tt
  unchanged (x ∷ xs) = (refl, unchanged xs)

  pub same_length : (xs ys : List (Entry R)) (n : ℕ) → ChangedTo xs ys n → length ys ≡ length xs
  same_length [] [] n h = refl
  same_length [] (y ∷ ys) n h = absurd h
  same_length (x ∷ xs) [] n h = absurd h
  same_length (x ∷ xs) (y ∷ ys) zero h = ap suc (same_length xs ys zero h.1)
  same_length (x ∷ xs) (y ∷ ys) (suc n) h = ap suc (same_length xs ys n h.1)

  -- a change at the next place
  pub next_changed : (xs ys : List (Entry R)) (n : ℕ) (e : Entry R) (r : R) → ChangedTo xs ys n → slice_get ys n ≡ Some e → P e.1.1 r
      → ChangedTo xs (set_value_at ys n (e.1.0, r)) (suc n)
  next_changed [] [] n e r h s p = absurd (none-some e s)
  next_changed [] (y ∷ ys) n e r h s p = absurd h
  next_changed (x ∷ xs) [] n e r h s p = absurd h
  next_changed (x ∷ xs) (y ∷ ys) zero e r h s p =
      let same : e ≡ x = sym (same_Some y e s) ∙ h.0 in
      (record { after = r; changed = rw same at p; is = λ j. ((h.0 j).0, ((same j).1.0, r)) }, h.1)
  next_changed (x ∷ xs) (y ∷ ys) (suc n) e r h s p = (h.0, next_changed xs ys n e r h.1 s p)

  pub step_changed : (xs ys after : List (Entry R)) (n : ℕ) → ChangedTo xs ys n → n < length xs
      → ((e : Entry R) → slice_get ys n ≡ Some e → (r : R) × P e.1.1 r × (after ≡ set_value_at ys n (e.1.0, r))) → ChangedTo xs after (n + 1)
  step_changed xs [] after n h l k = let none = same_length xs [] n h in absurd (omega arith)
  step_changed xs (y ∷ ys) after n h l k =
      let same = same_length xs (y ∷ ys) n h in
      let e = get_or (y ∷ ys) n y in
      let stands : slice_get (y ∷ ys) n ≡ Some e = slice_get-get_or (y ∷ ys) n y (omega arith) in
      let made = k e stands in
      rw (add-one, made.2) (next_changed xs (y ∷ ys) n e made.0 h stands made.1)

  pub rows-changed : (f : R → R) → ((old new : R) → P old new → new ≡ f old) → (xs ys : List (Entry R)) → ChangedTo xs ys (length xs)
      → numbered_records ys ≡ map_each f (numbered_records xs)
  rows-changed f does [] [] h = refl
  rows-changed f does [] (y ∷ ys) h = absurd h
  rows-changed f does (x ∷ xs) [] h = absurd h
  rows-changed f does (x ∷ xs) (y ∷ ys) h =
      ap (λ (z : Entry R). z.1 ∷ numbered_records ys) h.0.is ∙ (λ j. (x.1.0, does x.1.1 h.0.after h.0.changed j) ∷ rows-changed f does xs ys h.1 j)

  pub numbers-changed : (xs ys : List (Entry R)) (n : ℕ) → ChangedTo xs ys n → numbers (numbered_records ys) ≡ numbers (numbered_records xs)
  numbers-changed [] [] n h = refl
  numbers-changed [] (y ∷ ys) n h = absurd h
  numbers-changed (x ∷ xs) [] n h = absurd h
  numbers-changed (x ∷ xs) (y ∷ ys) zero h = λ j. (h.0 j).1.0 ∷ numbers-changed xs ys zero h.1 j
  numbers-changed (x ∷ xs) (y ∷ ys) (suc n) h = λ j. (h.0.is j).1.0 ∷ numbers-changed xs ys n h.1 j

  pub Between-changed : (high : ℕ) (xs ys : List (Entry R)) (n low : ℕ) → ChangedTo xs ys n → Between low high (numbered_records xs) → Between low high (numbered_records ys)
  Between-changed high [] [] n low h b = tt
  Between-changed high [] (y ∷ ys) n low h b = absurd h
  Between-changed high (x ∷ xs) [] n low h b = absurd h
  Between-changed high (x ∷ xs) (y ∷ ys) zero low h b =
      rw (ap (λ (z : Entry R). z.1.0) h.0) (b.0, b.1, Between-changed high xs ys zero (x.1.0 + 1) h.1 b.2)
  Between-changed high (x ∷ xs) (y ∷ ys) (suc n) low h b =
      rw (ap (λ (z : Entry R). z.1.0) h.0.is) (b.0, b.1, Between-changed high xs ys n (x.1.0 + 1) h.1 b.2)

  pub named-changed : (name_of : R → List ℕ) → ((old new : R) → P old new → name_of new ≡ name_of old) → (xs ys : List (Entry R)) (n : ℕ) → ChangedTo xs ys n
      → AreNamed name_of xs → AreNamed name_of ys
  named-changed name_of keeps [] [] n h k = tt
  named-changed name_of keeps [] (y ∷ ys) n h k = absurd h
  named-changed name_of keeps (x ∷ xs) [] n h k = absurd h
  named-changed name_of keeps (x ∷ xs) (y ∷ ys) zero h k =
      (ap (λ (z : Entry R). z.0.items) h.0 ∙ k.0 ∙ sym (ap (λ (z : Entry R). name_of z.1.1) h.0), named-changed name_of keeps xs ys zero h.1 k.1)
  named-changed name_of keeps (x ∷ xs) (y ∷ ys) (suc n) h k = (
    ap (λ (z : Entry R). z.0.items) h.0.is ∙ k.0 ∙ sym (keeps x.1.1 h.0.after h.0.changed) ∙ sym (ap (λ (z : Entry R). name_of z.1.1) h.0.is),
    named-changed name_of keeps xs ys n h.1 k.1,
  )
