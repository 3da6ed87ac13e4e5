-- Lists in which a thing stands once: what one more thing adds, and what such a list has.
use Rattle.std.proofs.Common.{◌≡◌, ℕ, ◌≤◌, nat_le, Bool, true, false, not, cond, ◌&&◌, ◌||◌, List, [], ◌∷◌, ◌++◌, length, Option, Result, Some, None, Ok, Err, IsOk, IsSome, refl, sym, ap, ◌∙◌, subst, arith, le-leb}
use Rattle.std.specs.Prelude.{is_some, option_map, option_and_then}
use Rattle.std.specs.List.{filter, list_all, list_any}
use Rattle.std.specs.Option.{ok_or}
use Rattle.std.proofs.lemmas.Bool.{and_from, and_parts, not_from_false, false≢true}
use Rattle.std.proofs.lemmas.List.{append-nil}
use Rattle.std.proofs.lemmas.List.Elements.{filter-append}
use Rattle.std.proofs.lemmas.Option.{option_and_then_some, same_Some}
use Rattle.serde_json.specs.Data.{Data, Items}
use Rattle.serde_json.specs.View.{view, items_view}
use Rattle.serde_json.specs.declared.value.Value.{Value}
use Rattle.ctrl_model.specs.declared.refusals.Field.{Field}
use Rattle.ctrl_model.specs.InterceptForm.{is_without_repeats, is_claim}
use Rattle.ctrl_model.proofs.NumberedLaws.{length-filter-le}
use Rattle.ctrl_model.proofs.TableLaws.{list_all-filter}
use Rattle.json_body.specs.declared.fields.FieldFault.{FieldFault}
use Rattle.json_body.specs.declared.fields.FieldFault.TheVariants.{Missing, WrongKind, NoMemory}
use Rattle.json_body.specs.FieldKinds.{as_list_of, member_of, required_from, required}
use Rattle.body_fields.specs.ReadResults.{Gives}
use Rattle.body_fields.specs.ItemLists.{each_of, as_each_of, each_once, with_item, at_least_one, as_some_once}
use Rattle.body_fields.proofs.ItemLaws.{by_mapped, each_of-more, as_each_of-form}

-- The things of a list that are not the same as one.
abbrev but : {A : Type 0} → (A → A → Bool) → A → List A → List A
but same x xs = filter (λ y. not (same x y)) xs

-- ---- one thing more

module _ {A : Type 0} (same : A → A → Bool) (are_equal : (x y : A) → same x y ≡ true → x ≡ y) where
  any-but : (x : A) (xs : List A) (y : A) → same x y ≡ false → list_any (λ z. same z y) (but same x xs) ≡ list_any (λ z. same z y) xs
  any-but x [] y e = refl
  any-but x (z ∷ xs) y e = by (same x z) refl (any-but x xs y e)
    where
      by : (b : Bool) → same x z ≡ b → list_any (λ w. same w y) (but same x xs) ≡ list_any (λ w. same w y) xs
          → list_any (λ w. same w y) (cond (not b) (z ∷ but same x xs) (but same x xs)) ≡ (same z y || list_any (λ w. same w y) xs)
      by true is h = h ∙ sym (ap (λ b. b || list_any (λ w. same w y) xs) (ap (λ w. same w y) (sym (are_equal x z is)) ∙ e))
      by false is h = ap (λ b. same z y || b) h

  but-end_same : (x : A) (xs : List A) (y : A) → same x y ≡ true → but same x (xs ++ y ∷ []) ≡ but same x xs
  but-end_same x xs y e = filter-append (λ z. not (same x z)) xs (y ∷ []) ∙ ap (λ b. but same x xs ++ cond (not b) (y ∷ []) []) e ∙ append-nil (but same x xs)

  but-end_other : (x : A) (xs : List A) (y : A) → same x y ≡ false → but same x (xs ++ y ∷ []) ≡ but same x xs ++ y ∷ []
  but-end_other x xs y e = filter-append (λ z. not (same x z)) xs (y ∷ []) ∙ ap (λ b. but same x xs ++ cond (not b) (y ∷ []) []) e

  but-with_item : (x : A) (xs : List A) (y : A) → x ∷ but same x (with_item same xs y) ≡ with_item same (x ∷ but same x xs) y
  but-with_item x xs y = by (same x y) (list_any (λ z. same z y) xs) refl refl
    where
      by : (b c : Bool) → same x y ≡ b → list_any (λ z. same z y) xs ≡ c
          → x ∷ but same x (cond c xs (xs ++ y ∷ [])) ≡ cond (same x y || list_any (λ z. same z y) (but same x xs)) (x ∷ but same x xs) (x ∷ (but same x xs ++ y ∷ []))
      by true true is has = rw is refl
      by true false is has = rw is (ap (λ l. x ∷ l) (but-end_same x xs y is))
      by false true is has = rw (is, any-but x xs y is, has) refl
      by false false is has = rw (is, any-but x xs y is, has) (ap (λ l. x ∷ l) (but-end_other x xs y is))

  pub each_once-end : (xs : List A) (y : A) → each_once same (xs ++ y ∷ []) ≡ with_item same (each_once same xs) y
  each_once-end [] y = refl
  each_once-end (x ∷ xs) y = ap (λ l. x ∷ but same x l) (each_once-end xs y) ∙ but-with_item x (each_once same xs) y

  -- What one value more says.
  pub once-more : (kind : Data → Option A) (vs : List Value) (v : Value) (kept : List A) (x : A) → option_map (each_once same) (each_of kind (items_view vs)) ≡ Some kept → kind (view v) ≡ Some x
      → option_map (each_once same) (each_of kind (items_view (vs ++ v ∷ []))) ≡ Some (with_item same kept x)
  once-more kind vs v kept x so_far is =
      by_mapped (each_once same) (each_of kind (items_view vs)) kept so_far (λ xs sent kept_is.
      ap (option_map (each_once same)) (each_of-more kind vs v xs x sent is) ∙ ap (λ l. Some l) (each_once-end xs x ∙ ap (λ l. with_item same l x) kept_is))

-- ---- the form of such a list

module _ {A : Type 0} (same : A → A → Bool) where
  each_once-length : (xs : List A) → length (each_once same xs) ≤ length xs
  each_once-length [] = omega arith
  each_once-length (x ∷ xs) = omega (arith, length-filter-le (λ y. not (same x y)) (each_once same xs), each_once-length xs)

  each_once-all : (holds : A → Bool) (xs : List A) → list_all holds xs ≡ true → list_all holds (each_once same xs) ≡ true
  each_once-all holds [] e = refl
  each_once-all holds (x ∷ xs) e =
      let parts = and_parts (holds x) (list_all holds xs) e in
      and_from (holds x) (list_all holds (but same x (each_once same xs))) parts.0
      (list_all-filter (λ y. not (same x y)) holds holds (λ y p q. q) (each_once same xs) (each_once-all holds xs parts.1))

  any-filter : (p q : A → Bool) (xs : List A) → list_any p xs ≡ false → list_any p (filter q xs) ≡ false
  any-filter p q [] e = refl
  any-filter p q (x ∷ xs) e = by (p x) (q x) refl e (any-filter p q xs)
    where
      by : (b c : Bool) → p x ≡ b → (b || list_any p xs) ≡ false → (list_any p xs ≡ false → list_any p (filter q xs) ≡ false)
          → list_any p (cond c (x ∷ filter q xs) (filter q xs)) ≡ false
      by true c is e h = absurd (false≢true (sym e))
      by false true is e h = ap (λ b. b || list_any p (filter q xs)) is ∙ h e
      by false false is e h = h e

  filter-without_repeats : (q : A → Bool) (xs : List A) → is_without_repeats same xs ≡ true → is_without_repeats same (filter q xs) ≡ true
  filter-without_repeats q [] e = refl
  filter-without_repeats q (x ∷ xs) e = by (q x) (and_parts (not (list_any (same x) xs)) (is_without_repeats same xs) e) (filter-without_repeats q xs)
    where
      none : (b : Bool) → not b ≡ true → b ≡ false
      none true e = absurd (false≢true e)
      none false e = refl

      by : (c : Bool) → (not (list_any (same x) xs) ≡ true) × (is_without_repeats same xs ≡ true) → (is_without_repeats same xs ≡ true → is_without_repeats same (filter q xs) ≡ true)
          → is_without_repeats same (cond c (x ∷ filter q xs) (filter q xs)) ≡ true
      by true parts h =
          and_from (not (list_any (same x) (filter q xs))) (is_without_repeats same (filter q xs))
          (not_from_false (list_any (same x) (filter q xs)) (any-filter (same x) q xs (none (list_any (same x) xs) parts.0))) (h parts.1)
      by false parts h = h parts.1

  any-but_itself : (x : A) (xs : List A) → list_any (same x) (but same x xs) ≡ false
  any-but_itself x [] = refl
  any-but_itself x (y ∷ xs) = by (same x y) refl (any-but_itself x xs)
    where
      by : (b : Bool) → same x y ≡ b → list_any (same x) (but same x xs) ≡ false → list_any (same x) (cond (not b) (y ∷ but same x xs) (but same x xs)) ≡ false
      by true is h = h
      by false is h = ap (λ b. b || list_any (same x) (but same x xs)) is ∙ h

  each_once-without_repeats : (xs : List A) → is_without_repeats same (each_once same xs) ≡ true
  each_once-without_repeats [] = refl
  each_once-without_repeats (x ∷ xs) =
      and_from (not (list_any (same x) (but same x (each_once same xs)))) (is_without_repeats same (but same x (each_once same xs)))
      (not_from_false (list_any (same x) (but same x (each_once same xs))) (any-but_itself x (each_once same xs)))
      (filter-without_repeats (λ y. not (same x y)) (each_once same xs) (each_once-without_repeats xs))

  -- Of at least one thing, and at most 32, of the form: a list that an intercept may have.
  each_once-claim : (form : A → Bool) (sent xs : List A) → at_least_one sent ≡ Some xs → length sent ≤ 32 → list_all form sent ≡ true → is_claim form same (each_once same xs) ≡ true
  each_once-claim form [] xs some few all = absurd (cc)
  each_once-claim form (x ∷ sent) xs some few all =
      let kept = each_once same (x ∷ sent) in
      let short : length kept ≤ 32 = omega (arith, few, each_once-length (x ∷ sent)) in
      subst (λ ys. is_claim form same (each_once same ys) ≡ true) (same_Some (x ∷ sent) xs some)
      (and_from (nat_le 1 (length kept)) (nat_le (length kept) 32 && (list_all form kept && is_without_repeats same kept)) (le-leb 1 (length kept) (omega arith))
      (and_from (nat_le (length kept) 32) (list_all form kept && is_without_repeats same kept) (le-leb (length kept) 32 short)
      (and_from (list_all form kept) (is_without_repeats same kept) (each_once-all form (x ∷ sent) all) (each_once-without_repeats (x ∷ sent)))))

  pub as_some_once-claim : (kind : Data → Option A) (form : A → Bool) → ((d : Data) (x : A) → kind d ≡ Some x → form x ≡ true)
      → (d : Data) (xs : List A) → as_some_once 32 kind same d ≡ Some xs → is_claim form same xs ≡ true
  as_some_once-claim kind form each d xs e =
      by_mapped (each_once same) (option_and_then at_least_one (as_each_of 32 kind d)) xs e (λ ys some kept.
      option_and_then_some at_least_one (as_each_of 32 kind d) ys some (λ sent is one.
      as_each_of-form 32 kind form each d sent is (λ few all.
      subst (λ zs. is_claim form same zs ≡ true) kept (each_once-claim form sent ys one few all))))

  -- ---- lists that have no repeats

  stay : (x : A) (xs : List A) → not (list_any (same x) xs) ≡ true → but same x xs ≡ xs
  stay x [] h = refl
  stay x (y ∷ xs) h = by (same x y) h (stay x xs)
    where
      by : (b : Bool) → not (b || list_any (same x) xs) ≡ true → (not (list_any (same x) xs) ≡ true → but same x xs ≡ xs)
          → cond (not b) (y ∷ but same x xs) (but same x xs) ≡ y ∷ xs
      by true h more = absurd (false≢true h)
      by false h more = ap (λ l. y ∷ l) (more h)

  pub each_once-own : (xs : List A) → is_without_repeats same xs ≡ true → each_once same xs ≡ xs
  each_once-own [] e = refl
  each_once-own (x ∷ xs) e =
      let p = and_parts (not (list_any (same x) xs)) (is_without_repeats same xs) e in
      ap (λ l. x ∷ but same x l) (each_once-own xs p.1) ∙ ap (λ l. x ∷ l) (stay x xs p.0)

  -- ---- whether there is such a list

  -- What values say of which there is at least one.
  pub once_said : (kind : Data → Option A) (vs : List Value) → (vs ≡ [] → ⊥)
      → option_map (each_once same) (option_and_then at_least_one (each_of kind (items_view vs))) ≡ option_map (each_once same) (each_of kind (items_view vs))
  once_said kind [] some = absurd (some refl)
  once_said kind (v ∷ vs) some = by (kind (view v)) (each_of kind (items_view vs))
    where
      by : (o : Option A) (more : Option (List A)) → option_map (each_once same) (option_and_then at_least_one (option_and_then (λ x. option_map (λ xs. x ∷ xs) more) o))
          ≡ option_map (each_once same) (option_and_then (λ x. option_map (λ xs. x ∷ xs) more) o)
      by None more = refl
      by (Some x) None = refl
      by (Some x) (Some xs) = refl

  -- So is whether there is such a list of values of which there is at least one.
  pub said_somewhere : (kind : Data → Option A) (vs : List Value) → (vs ≡ [] → ⊥)
      → is_some (each_of kind (items_view vs)) ≡ is_some (option_map (each_once same) (option_and_then at_least_one (each_of kind (items_view vs))))
  said_somewhere kind vs some = mapped (each_of kind (items_view vs)) ∙ ap is_some (sym (once_said kind vs some))
    where
      mapped : (o : Option (List A)) → is_some o ≡ is_some (option_map (each_once same) o)
      mapped None = refl
      mapped (Some xs) = refl

-- ---- such a list of a field

module _ {A : Type 0} (same : A → A → Bool) (kind : Data → Option A) (most : ℕ) (of_field : Field) (o : Data) where
  -- Where the field gives no list it gives none of these.
  pub some_once_behind : (f : FieldFault) → required (as_list_of most) of_field o ≡ Err f → required (as_some_once most kind same) of_field o ≡ Err f
  some_once_behind f e = by (member_of of_field o) e
    where
      told : (q : Option Items) → ok_or q (WrongKind of_field) ≡ Err f → ok_or (option_map (each_once same) (option_and_then at_least_one (option_and_then (each_of kind) q))) (WrongKind of_field) ≡ Err f
      told None e = let is : WrongKind of_field ≡ f = cc in ap (λ g. Err g) is
      told (Some x) e = absurd (cc)

      by : (v : Option Data) → required_from of_field (as_list_of most) v ≡ Err f → required_from of_field (as_some_once most kind same) v ≡ Err f
      by None e = let is : Missing of_field ≡ f = cc in ap (λ g. Err g) is
      by (Some d) e = told (as_list_of most d) e

  -- Where it gives values, of which there is at least one, these say it.
  pub some_once_at : (vs : List Value) → (vs ≡ [] → ⊥) → required (as_list_of most) of_field o ≡ Ok (items_view vs)
      → required (as_some_once most kind same) of_field o ≡ ok_or (option_map (each_once same) (each_of kind (items_view vs))) (WrongKind of_field)
  some_once_at vs some e = by (member_of of_field o) e ∙ ap (λ l. ok_or l (WrongKind of_field)) (once_said same kind vs some)
    where
      told : (q : Option Items) → ok_or q (WrongKind of_field) ≡ Ok (items_view vs)
          → ok_or (option_map (each_once same) (option_and_then at_least_one (option_and_then (each_of kind) q))) (WrongKind of_field)
          ≡ ok_or (option_map (each_once same) (option_and_then at_least_one (each_of kind (items_view vs)))) (WrongKind of_field)
      told None e = absurd (cc)
      told (Some l) e = let is : l ≡ items_view vs = cc in ap (λ m. ok_or (option_map (each_once same) (option_and_then at_least_one (each_of kind m))) (WrongKind of_field)) is

      by : (v : Option Data) → required_from of_field (as_list_of most) v ≡ Ok (items_view vs)
          → required_from of_field (as_some_once most kind same) v ≡ ok_or (option_map (each_once same) (option_and_then at_least_one (each_of kind (items_view vs)))) (WrongKind of_field)
      by None e = absurd (cc)
      by (Some d) e = told (as_list_of most d) e

  pub some_once_there : (vs : List Value) → (vs ≡ [] → ⊥) → required (as_list_of most) of_field o ≡ Ok (items_view vs) → IsSome (each_of kind (items_view vs))
      → IsOk (required (as_some_once most kind same) of_field o)
  some_once_there vs some e there = rw (some_once_at vs some e) (by (each_of kind (items_view vs)) there)
    where
      by : (q : Option (List A)) → IsSome q → IsOk (ok_or (option_map (each_once same) q) (WrongKind of_field))
      by None there = absurd (false≢true there)
      by (Some xs) there = refl

-- What is kept of it is what is given.
pub once_given : {A V : Type 0} (items : V → List A) (of_field : Field) (r : Result V FieldFault) (kept : Option V) (said : Option (List A)) (reading : Result (List A) FieldFault)
    → r ≡ ok_or kept (WrongKind of_field) → option_map items kept ≡ said → reading ≡ ok_or said (WrongKind of_field) → Gives NoMemory items r reading
once_given items of_field r None said reading p e q = subst (λ s. Gives NoMemory items s reading) (sym p) (λ other. q ∙ ap (λ l. ok_or l (WrongKind of_field)) (sym e))
once_given items of_field r (Some v) said reading p e q = subst (λ s. Gives NoMemory items s reading) (sym p) (q ∙ ap (λ l. ok_or l (WrongKind of_field)) (sym e))
