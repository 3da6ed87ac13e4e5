-- Laws of the entries of a table by name: who has a name, a new entry, a changed one, and numbers that stay in order.
use Rattle.std.proofs.Common.{◌≡◌, ℕ, ◌+◌, ◌≤◌, ◌==◌, Bool, true, false, cond, List, [], ◌∷◌, ◌++◌, slice_get, vec_len, Option, None, Some, IfSome, is_some, refl, sym, ◌∙◌, ap, arith, eqb-true}
use Rattle.std.proofs.lemmas.Bool.{false≢true}
use Rattle.std.proofs.lemmas.List.{map-append}
use Rattle.std.proofs.lemmas.Option.{same_Some, none-some, slice_get-map}
use Rattle.std.specs.Global.{Vec}
use Rattle.std.specs.List.{AllZip, each_same}
use Rattle.std.specs.Map.{lookup, values_of}
use Rattle.std.specs.Option.{option_map}
use Rattle.std.specs.Str.{bytes_eq}
use Rattle.indexmap.specs.IndexMap.{insert_entry}
use Rattle.ctrl_model.specs.Numbered.{at, is_present, edit_at, Between}
use Rattle.ctrl_model.proofs.NumberedLaws.{Between-more, first_where-found}
use Rattle.record_tables.specs.Entries.{Entry, numbered_records, number_named, AreNamed, AreOrdered}
use Rattle.record_tables.specs.Changes.{IsCopied}
use Rattle.record_tables.proofs.PlaceLaws.{edit_at-above}
use Rattle.record_tables.proofs.NameKeys.{bytes_eq-flip}

module _ {R : Type 0} (name_of : R → List ℕ) where
  -- a look-up by the bytes of a name finds the record that has the name
  pub named-lookup : (es : List (Entry R)) (name : List ℕ) → AreNamed name_of es
      → option_map (λ (row : ℕ × R). row.0) (lookup (λ k. bytes_eq name k.items) es) ≡ number_named name_of (numbered_records es) name
  named-lookup [] name h = refl
  named-lookup (e ∷ es) name h = by (bytes_eq name e.0.items) refl (named-lookup es name h.1)
    where
      by : (c : Bool) → bytes_eq name e.0.items ≡ c
          → option_map (λ (row : ℕ × R). row.0) (lookup (λ k. bytes_eq name k.items) es) ≡ number_named name_of (numbered_records es) name
          → option_map (λ (row : ℕ × R). row.0) (cond c (Some e.1) (lookup (λ k. bytes_eq name k.items) es))
          ≡ cond (bytes_eq (name_of e.1.1) name) (Some e.1.0) (number_named name_of (numbered_records es) name)
      by true s k = sym (ap (λ c. cond c (Some e.1.0) (number_named name_of (numbered_records es) name)) (ap (λ n. bytes_eq n name) (sym h.0) ∙ bytes_eq-flip e.0.items name ∙ s))
      by false s k = k ∙ sym (ap (λ c. cond c (Some e.1.0) (number_named name_of (numbered_records es) name)) (ap (λ n. bytes_eq n name) (sym h.0) ∙ bytes_eq-flip e.0.items name ∙ s))

  -- an entry at a name that none has goes last
  pub inserted : (es : List (Entry R)) (key : Vec ℕ) (row : ℕ × R) → AreNamed name_of es → number_named name_of (numbered_records es) key.items ≡ None
      → insert_entry (λ a b. bytes_eq a.items b.items) es key row ≡ es ++ (key, row) ∷ []
  inserted [] key row h free = refl
  inserted (e ∷ es) key row h free =
      by (bytes_eq key.items e.0.items) (bytes_eq (name_of e.1.1) key.items) (bytes_eq-flip key.items e.0.items ∙ ap (λ n. bytes_eq n key.items) h.0) free (inserted es key row h.1)
    where
      by : (c d : Bool) → c ≡ d → cond d (Some e.1.0) (number_named name_of (numbered_records es) key.items) ≡ None
          → (number_named name_of (numbered_records es) key.items ≡ None → insert_entry (λ a b. bytes_eq a.items b.items) es key row ≡ es ++ (key, row) ∷ [])
          → cond c ((e.0, row) ∷ es) (e ∷ insert_entry (λ a b. bytes_eq a.items b.items) es key row) ≡ e ∷ (es ++ (key, row) ∷ [])
      by c true s f k = absurd (none-some e.1.0 (sym f))
      by true false s f k = absurd (false≢true (sym s))
      by false false s f k = ap (λ ys. e ∷ ys) (k f)

pub numbered_records-append : {R : Type 0} (es : List (Entry R)) (e : Entry R) → numbered_records (es ++ e ∷ []) ≡ numbered_records es ++ e.1 ∷ []
numbered_records-append es e = map-append (λ e. e.1) es (e ∷ [])

-- ---- the numbers of a table are in order

pub in_order : {R : Type 0} (es : List (Entry R)) (next : ℕ) → next ≤ 4294967295 → Between 1 next (numbered_records es) → AreOrdered es
in_order es next l b = Between-more next (numbered_records es) 1 1 4294967295 (omega arith) l b

-- the value of an entry at a place
pub value_at : {R : Type 0} (es : List (Entry R)) (i : ℕ) (e : Entry R) → slice_get es i ≡ Some e → slice_get (values_of es) i ≡ Some e.1
value_at es i e s = slice_get-map (λ e. e.1) es i ∙ ap (option_map (λ e. e.1)) s

-- a change at one number by a value is a change by a function that gives this value of the record there
pub edit_at-value : {R : Type 0} (high : ℕ) (xs : List (ℕ × R)) (low n : ℕ) (f : R → R) (r s : R) → Between low high xs → at xs n ≡ Some r → s ≡ f r
    → edit_at xs n (λ _. s) ≡ edit_at xs n f
edit_at-value high [] low n f r s b e v = refl
edit_at-value high (x ∷ xs) low n f r s b e v = by (x.0 == n) refl e (edit_at-value high xs (x.0 + 1) n f r s b.2)
  where
    by : (c : Bool) → (x.0 == n) ≡ c → cond c (Some x.1) (at xs n) ≡ Some r → (at xs n ≡ Some r → s ≡ f r → edit_at xs n (λ _. s) ≡ edit_at xs n f)
        → (x.0, cond c s x.1) ∷ edit_at xs n (λ _. s) ≡ (x.0, cond c (f x.1) x.1) ∷ edit_at xs n f
    by true is k rest =
        let number = eqb-true x.0 n is in
        let first : edit_at xs n (λ _. s) ≡ xs = edit_at-above high xs (x.0 + 1) n (λ _. s) (omega arith) b.2 in
        let second : edit_at xs n f ≡ xs = edit_at-above high xs (x.0 + 1) n f (omega arith) b.2 in
        λ j. (x.0, (v ∙ ap f (sym (same_Some x.1 r k))) j) ∷ (first ∙ sym second) j
    by false is k rest = ap (λ ys. (x.0, x.1) ∷ ys) (rest k v)

-- a record that is found by its name is present
pub named_present : {R : Type 0} (name_of : R → List ℕ) (high : ℕ) (rows : List (ℕ × R)) (name : List ℕ) (o : Option ℕ) → Between 1 high rows → o ≡ number_named name_of rows name
    → IfSome o (λ n. is_present rows n ≡ true)
named_present name_of high rows name None b e = tt
named_present name_of high rows name (Some n) b e = ap is_some (first_where-found (λ r. bytes_eq (name_of r) name) high rows 1 n b (sym e)).stands

-- ---- copies

-- clones of entries, of which the records are equal, are equal entries
module _ {R : Type 0} (C : R → R → Type 0) (same : IsCopied C) where
  abbrev pub AreClones : List (Entry R) → List (Entry R) → Type 0
  AreClones es ms = AllZip (λ p q. (AllZip (λ x y. y ≡ x) p.0.items q.0.items × (vec_len q.0 ≡ vec_len p.0)) × ((q.1.0 ≡ p.1.0) × C p.1.1 q.1.1)) es ms

  pub copied-rows : (es ms : List (Entry R)) → AreClones es ms → numbered_records ms ≡ numbered_records es
  copied-rows [] [] h = refl
  copied-rows [] (m ∷ ms) h = absurd h
  copied-rows (e ∷ es) [] h = absurd h
  copied-rows (e ∷ es) (m ∷ ms) h = λ j. (h.0.1.0 j, same e.1.1 m.1.1 h.0.1.1 j) ∷ copied-rows es ms h.1 j

  pub copied-named : (name_of : R → List ℕ) (es ms : List (Entry R)) → AreClones es ms → AreNamed name_of es → AreNamed name_of ms
  copied-named name_of [] [] h k = tt
  copied-named name_of [] (m ∷ ms) h k = absurd h
  copied-named name_of (e ∷ es) [] h k = absurd h
  copied-named name_of (e ∷ es) (m ∷ ms) h k =
      (each_same e.0.items m.0.items h.0.0.0 ∙ k.0 ∙ sym (ap name_of (same e.1.1 m.1.1 h.0.1.1)), copied-named name_of es ms h.1 k.1)
