-- Laws of records that a map keeps by their numbers: what stands at a number, and what a record behind the others, a write and a
-- removal are.
use Rattle.std.proofs.Common.{◌≡◌, ℕ, ◌+◌, ◌<◌, ◌≤◌, ◌==◌, Bool, true, false, cond, not, List, [], ◌∷◌, ◌++◌, Option, None, Some, Bor, MutBor, IsSome, Greater, is_some, refl, sym, ◌∙◌, ap, arith, eqb-true}
use Rattle.std.proofs.lemmas.Bool.{false≢true}
use Rattle.std.proofs.lemmas.Grind.{common_steps}
use Rattle.std.specs.BTreeMap.{is_at, insert_entry}
use Rattle.std.specs.List.{AllZip}
use Rattle.std.specs.Map.{lookup, set_value, remove_entry}
use Rattle.std.specs.Option.{option_map, option_copied, option_copied_mut}
use Rattle.std.specs.Ordering.{nat_cmp, match_ordering}
use Rattle.ctrl_model.specs.Numbered.{at, is_present, edit_at, without, Between}
use Rattle.ctrl_model.proofs.NumberedLaws.{Between-more}
use Rattle.record_tables.specs.Changes.{IsCopied}
use Rattle.record_tables.proofs.PlaceLaws.{without-above, edit_at-above}

-- the map's test of a number is the equality of numbers
is_at-number : (n k : ℕ) → is_at (nat_cmp n) k ≡ (k == n)
is_at-number n k = grind (arith, common_steps)

module _ {R : Type 0} where
  -- the record at a number is what the map finds there
  pub at-lookup : (es : List (ℕ × R)) (n : ℕ) → at es n ≡ lookup (is_at (nat_cmp n)) es
  at-lookup [] n = refl
  at-lookup (e ∷ es) n = λ j. cond (sym (is_at-number n e.0) j) (Some e.1) (at-lookup es n j)

  pub at-lent : (es : List (ℕ × R)) (n : ℕ) (o : Option (Bor R)) → option_copied o ≡ lookup (is_at (nat_cmp n)) es → option_map (λ r. r.now) o ≡ at es n
  at-lent es n o e = by o ∙ e ∙ sym (at-lookup es n)
    where
      by : (o : Option (Bor R)) → option_map (λ r. r.now) o ≡ option_copied o
      by None = refl
      by (Some r) = refl

  -- a present record is lent
  pub lent_there : (es : List (ℕ × R)) (n : ℕ) (o : Option (MutBor R)) → option_copied_mut o ≡ lookup (is_at (nat_cmp n)) es → is_present es n ≡ true → IsSome o
  lent_there es n o e there = by o (ap is_some (e ∙ sym (at-lookup es n)) ∙ there)
    where
      by : (o : Option (MutBor R)) → is_some (option_copied_mut o) ≡ true → IsSome o
      by None p = absurd (false≢true p)
      by (Some r) p = refl

  -- a record above all others stands behind them
  pub insert_entry-last : (high : ℕ) (es : List (ℕ × R)) (low : ℕ) (r : R) → Between low high es → insert_entry nat_cmp es high r ≡ es ++ (high, r) ∷ []
  insert_entry-last high [] low r b = refl
  insert_entry-last high (e ∷ es) low r b =
      ap (λ o. match_ordering o ((high, r) ∷ e ∷ es) ((e.0, r) ∷ es) (e ∷ insert_entry nat_cmp es high r)) (above high e.0 b.1)
      ∙ ap (λ ds. e ∷ ds) (insert_entry-last high es (e.0 + 1) r b.2)
    where
      above : (n k : ℕ) → k < n → nat_cmp n k ≡ Greater
      above n k l = grind (arith, common_steps)

  -- a write to what the map finds at a number changes the record there
  pub set_value-edit : (high : ℕ) (es : List (ℕ × R)) (low n : ℕ) (v : R) → Between low high es → set_value (is_at (nat_cmp n)) es v ≡ edit_at es n (λ _. v)
  set_value-edit high [] low n v b = refl
  set_value-edit high (e ∷ es) low n v b = by (is_at (nat_cmp n) e.0) (sym (is_at-number n e.0)) (set_value-edit high es (e.0 + 1) n v b.2)
    where
      by : (c : Bool) → (e.0 == n) ≡ c → set_value (is_at (nat_cmp n)) es v ≡ edit_at es n (λ _. v)
          → cond c ((e.0, v) ∷ es) (e ∷ set_value (is_at (nat_cmp n)) es v) ≡ (e.0, cond (e.0 == n) v e.1) ∷ edit_at es n (λ _. v)
      by true c again =
          let number : e.0 ≡ n = eqb-true e.0 n c in
          let others : es ≡ edit_at es n (λ _. v) = sym (edit_at-above high es (e.0 + 1) n (λ _. v) (omega arith) b.2) in
          λ j. (e.0, cond (sym c j) v e.1) ∷ others j
      by false c again = λ j. (e.0, cond (sym c j) v e.1) ∷ again j

  -- a removal takes the record of a number away
  pub remove_entry-without : (high : ℕ) (es : List (ℕ × R)) (low n : ℕ) → Between low high es → remove_entry (is_at (nat_cmp n)) es ≡ without es n
  remove_entry-without high [] low n b = refl
  remove_entry-without high (e ∷ es) low n b = by (is_at (nat_cmp n) e.0) (sym (is_at-number n e.0)) (remove_entry-without high es (e.0 + 1) n b.2)
    where
      by : (c : Bool) → (e.0 == n) ≡ c → remove_entry (is_at (nat_cmp n)) es ≡ without es n
          → cond c es (e ∷ remove_entry (is_at (nat_cmp n)) es) ≡ cond (not (e.0 == n)) (e ∷ without es n) (without es n)
      by true c again =
          let number : e.0 ≡ n = eqb-true e.0 n c in
          sym (without-above high es (e.0 + 1) n (omega arith) b.2) ∙ sym (ap (λ d. cond (not d) (e ∷ without es n) (without es n)) c)
      by false c again = ap (λ ys. e ∷ ys) again ∙ sym (ap (λ d. cond (not d) (e ∷ without es n) (without es n)) c)

  -- clones that are equal to what they are of
  pub same_records : (C : R → R → Type 0) → IsCopied C → (es ms : List (ℕ × R)) → AllZip (λ p q. (q.0 ≡ p.0) × C p.1 q.1) es ms → ms ≡ es
  same_records C same [] [] h = refl
  same_records C same [] (m ∷ ms) h = absurd h
  same_records C same (e ∷ es) [] h = absurd h
  same_records C same (e ∷ es) (m ∷ ms) h = λ j. (h.0.0 j, same e.1 m.1 h.0.1 j) ∷ same_records C same es ms h.1 j

-- ---- the numbers of a table are below their end

pub within_end : {R : Type 0} (next : ℕ) (es : List (ℕ × R)) → next ≤ 4294967295 → Between 1 next es → Between 1 4294967295 es
within_end next es l b = Between-more next es 1 1 4294967295 (omega arith) l b
