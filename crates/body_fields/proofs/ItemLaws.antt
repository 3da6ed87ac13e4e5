-- Lists whose values are all of one kind: what one more value adds, and what such a list has.
use Rattle.std.proofs.Common.{◌≡◌, ℕ, zero, suc, ◌+◌, ◌≤◌, ◌<◌, nat_le, Bool, true, false, List, [], ◌∷◌, ◌++◌, length, get_or, take, Option, Some, None, refl, sym, ap, ◌∙◌, subst, arith, leb-true}
use Rattle.std.specs.Prelude.{is_some, option_map, option_and_then}
use Rattle.std.specs.List.{list_all}
use Rattle.std.proofs.lemmas.Bool.{and_from}
use Rattle.std.proofs.lemmas.Grind.{take_at_read}
use Rattle.std.proofs.lemmas.Option.{cond_some, option_and_then_some, same_Some}
use Rattle.serde_json.specs.Data.{Data, Items, no_items, item}
use Rattle.serde_json.specs.Find.{as_array}
use Rattle.serde_json.specs.View.{view, items_view}
use Rattle.serde_json.specs.declared.value.Value.{Value}
use Rattle.json_body.specs.FieldKinds.{items_count, at_most, as_list_of}
use Rattle.body_fields.specs.ItemLists.{each_of, as_each_of}

-- What a map of a value gives is given by a value.
pub by_mapped : {A B P : Type 0} (f : A → B) (o : Option A) (y : B) → option_map f o ≡ Some y → ((x : A) → o ≡ Some x → f x ≡ y → P) → P
by_mapped f None y e k = absurd (cc)
by_mapped f (Some x) y e k = k x refl (same_Some (f x) y e)

-- ---- one more value

each_of-end : {A : Type 0} (kind : Data → Option A) (vs : List Value) (v : Value)
    → each_of kind (items_view (vs ++ v ∷ [])) ≡ option_and_then (λ xs. option_map (λ x. xs ++ x ∷ []) (kind (view v))) (each_of kind (items_view vs))
each_of-end {A} kind [] v = alone (kind (view v))
  where
    alone : (o : Option A) → option_and_then (λ x. Some (x ∷ [])) o ≡ option_map (λ x. x ∷ []) o
    alone None = refl
    alone (Some x) = refl
each_of-end {A} kind (w ∷ vs) v =
    ap (λ more. option_and_then (λ x. option_map (λ xs. x ∷ xs) more) (kind (view w))) (each_of-end kind vs v) ∙ behind (kind (view w)) (each_of kind (items_view vs)) (kind (view v))
  where
    behind : (o : Option A) (more : Option (List A)) (p : Option A)
        → option_and_then (λ x. option_map (λ xs. x ∷ xs) (option_and_then (λ xs. option_map (λ y. xs ++ y ∷ []) p) more)) o
        ≡ option_and_then (λ xs. option_map (λ y. xs ++ y ∷ []) p) (option_and_then (λ x. option_map (λ xs. x ∷ xs) more) o)
    behind None more p = refl
    behind (Some x) None p = refl
    behind (Some x) (Some xs) None = refl
    behind (Some x) (Some xs) (Some y) = refl

-- A value of the kind behind such values.
pub each_of-more : {A : Type 0} (kind : Data → Option A) (vs : List Value) (v : Value) (xs : List A) (x : A) → each_of kind (items_view vs) ≡ Some xs → kind (view v) ≡ Some x
    → each_of kind (items_view (vs ++ v ∷ [])) ≡ Some (xs ++ x ∷ [])
each_of-more kind vs v xs x so_far is = rw (each_of-end kind vs v, so_far, is) refl

-- A value that is not of the kind.
pub each_of-none : {A : Type 0} (kind : Data → Option A) (vs : List Value) (i : ℕ) (d : Value) → i < length vs → kind (view (get_or vs i d)) ≡ None → each_of kind (items_view vs) ≡ None
each_of-none kind [] i d lt e = absurd (omega arith)
each_of-none kind (v ∷ vs) zero d lt e = rw e refl
each_of-none {A} kind (v ∷ vs) (suc i) d lt e = rw (each_of-none kind vs i d (omega arith) e) (nothing (kind (view v)))
  where
    nothing : (o : Option A) → option_and_then (λ x. option_map (λ xs. x ∷ xs) None) o ≡ None
    nothing None = refl
    nothing (Some x) = refl

-- ---- whether each says something

none_unsaid : {A : Type 0} (o : Option A) → is_some o ≡ false → o ≡ None
none_unsaid None e = refl
none_unsaid (Some x) e = absurd (cc)

both_said : {A : Type 0} (a : Option (List A)) (b : Option A) → is_some a ≡ true → is_some b ≡ true → is_some (option_and_then (λ xs. option_map (λ x. xs ++ x ∷ []) b) a) ≡ true
both_said None b e f = absurd (cc)
both_said (Some xs) None e f = absurd (cc)
both_said (Some xs) (Some x) e f = refl

-- A value that says nothing.
pub unsaid_at : {A : Type 0} (kind : Data → Option A) (vs : List Value) (i : ℕ) (v : Value) → i < length vs → v ≡ get_or vs i v → is_some (kind (view v)) ≡ false
    → is_some (each_of kind (items_view vs)) ≡ false
unsaid_at kind vs i v lt is unsaid =
    ap is_some (each_of-none kind vs i v lt (ap (λ w. kind (view w)) (sym is) ∙ none_unsaid (kind (view v)) unsaid))

-- A value behind such values that says something.
pub said_to : {A : Type 0} (kind : Data → Option A) (vs : List Value) (i : ℕ) (v : Value) → i < length vs → v ≡ get_or vs i v → is_some (kind (view v)) ≡ true
    → is_some (each_of kind (items_view (take i vs))) ≡ true → is_some (each_of kind (items_view (take (i + 1) vs))) ≡ true
said_to kind vs i v lt is so so_far =
    let more : take (i + 1) vs ≡ take i vs ++ v ∷ [] = (take_at_read vs i v lt).1 ∙ ap (λ w. take i vs ++ w ∷ []) (sym is) in
    ap (λ ws. is_some (each_of kind (items_view ws))) more ∙ ap is_some (each_of-end kind (take i vs) v) ∙ both_said (each_of kind (items_view (take i vs))) (kind (view v)) so_far so

-- ---- what such a list has

pub each_of-length : {A : Type 0} (kind : Data → Option A) (ds : Items) (xs : List A) → each_of kind ds ≡ Some xs → length xs ≡ items_count ds
each_of-length kind no_items xs e = ap length (sym (same_Some [] xs e))
each_of-length kind (item d ds) xs e =
    option_and_then_some (λ x. option_map (λ ys. x ∷ ys) (each_of kind ds)) (kind d) xs e (λ x is more.
    by_mapped (λ ys. x ∷ ys) (each_of kind ds) xs more (λ ys sent same. omega (arith, ap length same, each_of-length kind ds ys sent)))

-- What holds of each value of the kind holds of all.
pub each_of-all : {A : Type 0} (kind : Data → Option A) (holds : A → Bool) → ((d : Data) (x : A) → kind d ≡ Some x → holds x ≡ true)
    → (ds : Items) (xs : List A) → each_of kind ds ≡ Some xs → list_all holds xs ≡ true
each_of-all kind holds each no_items xs e = ap (list_all holds) (sym (same_Some [] xs e))
each_of-all kind holds each (item d ds) xs e =
    option_and_then_some (λ x. option_map (λ ys. x ∷ ys) (each_of kind ds)) (kind d) xs e (λ x is more.
    by_mapped (λ ys. x ∷ ys) (each_of kind ds) xs more (λ ys sent same.
    ap (list_all holds) (sym same) ∙ and_from (holds x) (list_all holds ys) (each d x is) (each_of-all kind holds each ds ys sent)))

-- A list of at most so many values of a kind: so many at most, and what holds of each holds of all.
pub as_each_of-form : {A P : Type 0} (most : ℕ) (kind : Data → Option A) (holds : A → Bool) → ((d : Data) (x : A) → kind d ≡ Some x → holds x ≡ true)
    → (d : Data) (xs : List A) → as_each_of most kind d ≡ Some xs → (length xs ≤ most → list_all holds xs ≡ true → P) → P
as_each_of-form most kind holds each d xs e k =
    option_and_then_some (each_of kind) (as_list_of most d) xs e (λ ds listed sent.
    option_and_then_some (at_most most) (as_array d) ds listed (λ es there short.
    let few = cond_some (nat_le (items_count es) most) es ds short in
    let count : items_count ds ≤ most = subst (λ (ys : Items). items_count ys ≤ most) few.1 (leb-true (items_count es) most few.0) in
    k (omega (arith, each_of-length kind ds xs sent)) (each_of-all kind holds each ds xs sent)))
