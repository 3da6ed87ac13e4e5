-- Bytes that are cut at the first place where one passes.
use Rattle.std.proofs.Common.{◌≡◌, ℕ, ◌+◌, ◌-◌, ◌≤◌, Bool, true, false, cond, nat_lt, List, [], ◌∷◌, length, map, take, drop, unwrap_or, Option, None, Some, refl, sym, subst, ap, ◌∙◌, arith, ltb-true, ltb-false}
use Rattle.std.proofs.lemmas.Option.{same_Some, none-some}
use Rattle.std.proofs.lemmas.List.Splits.{slice_split_first, slice_split_none}
use Rattle.std.proofs.lemmas.List.Sums.{fails_before_first}
use Rattle.std.proofs.lemmas.List.{take_rest}
use Rattle.std.specs.List.{last_or, slice_split, position, position_or_len}
use Rattle.ctrl_model.specs.AddressForm.{last_part}

module _ (p : ℕ → Bool) (xs : List ℕ) where
  -- the cut at the place that is found
  pub cut_found : (place : ℕ) → position p xs ≡ Some place → slice_split p xs ≡ take place xs ∷ slice_split p (take (length xs - (place + 1)) (drop (place + 1) xs))
  cut_found place found = by (nat_lt (position_or_len p xs) (length xs)) refl found
    where
      by : (b : Bool) → nat_lt (position_or_len p xs) (length xs) ≡ b → cond b (Some (position_or_len p xs)) None ≡ Some place → slice_split p xs ≡ take place xs ∷ slice_split p (take (length xs - (place + 1)) (drop (place + 1) xs))
      by true within is =
          let same = same_Some (position_or_len p xs) place is in
          subst (λ n. slice_split p xs ≡ take n xs ∷ slice_split p (take (length xs - (n + 1)) (drop (n + 1) xs))) same
          (rw take_rest (slice_split_first p xs 0 (ltb-true (position_or_len p xs) (length xs) within)))
      by false past is = absurd (none-some place is)

  -- no cut, where there is none
  pub cut_nowhere : position p xs ≡ None → slice_split p xs ≡ xs ∷ []
  cut_nowhere nowhere = by (nat_lt (position_or_len p xs) (length xs)) refl nowhere
    where
      by : (b : Bool) → nat_lt (position_or_len p xs) (length xs) ≡ b → cond b (Some (position_or_len p xs)) None ≡ None → slice_split p xs ≡ xs ∷ []
      by true within is = absurd (none-some (position_or_len p xs) (sym is))
      by false past is = slice_split_none p xs (λ k e below. fails_before_first p xs k e (let no = ltb-false (position_or_len p xs) (length xs) past in omega (arith, no, below)))

-- the last part, of those that are given one after another
last_behind : {A : Type 0} (v : A → List ℕ) (d x : A) (xs : List A) → v (unwrap_or (last_or (Some x) xs) d) ≡ last_part (v x ∷ map v xs)
last_behind v d x [] = refl
last_behind v d x (y ∷ ys) = last_behind v d y ys

pub last_given : {A : Type 0} (v : A → List ℕ) (d r : A) (o : Option A) (xs : List A) (parts : List (List ℕ)) → o ≡ last_or None xs → r ≡ unwrap_or o d → map v xs ≡ parts → 1 ≤ length parts → v r ≡ last_part parts
last_given v d r o [] parts last is same some = absurd (let none = ap length same in omega (arith, none, some))
last_given v d r o (x ∷ xs) parts last is same some = ap v (is ∙ ap (λ q. unwrap_or q d) last) ∙ last_behind v d x xs ∙ ap last_part same
