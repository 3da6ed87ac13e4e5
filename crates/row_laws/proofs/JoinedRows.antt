-- Laws on rows that are joined part by part, as those of the tables of a state: what stands at a key, and that they rise where the
-- parts do and their numbers climb.
use Rattle.std.proofs.Common.{◌≡◌, ℕ, ◌<◌, ◌==◌, ◌&&◌, nat_lt, Bool, true, false, cond, List, [], ◌∷◌, find, flat_map, ◌||◌, inl, inr, Option, None, Some, option_and_then, refl, ◌∙◌, ap, arith, ltb-true, ne_eqb, eqb-true}
use Rattle.std.proofs.lemmas.Bool.{and_parts, cond-false}
use Rattle.std.specs.Option.{option_or}
use Rattle.std.specs.List.{AllByRecursion, list_all, list_any}
use Rattle.ctrl_model.specs.Membership.{Among}
use Rattle.row_codec.specs.RowKeys.{Key, key_cmp}
use Rattle.row_codec.specs.RowDifference.{value_at, Rises}
use Rattle.row_laws.specs.ChangedKeys.{Climbs}
use Rattle.row_laws.proofs.RisingRows.{Above, All-append, All-more, value_at-append, Rises-append}
use Rattle.row_laws.proofs.KeyOrders.{key_total}
use Rattle.std.proofs.Common.{Less}

-- that the numbers of parts climb, as a test, which computes for tables and kinds
abbrev pub climbs : {X : Type 0} → (X → ℕ) → List X → Bool
climbs g [] = true
climbs g (x ∷ xs) = list_all (λ y. nat_lt (g x) (g y)) xs && climbs g xs

pub Climbs-from : {X : Type 0} (g : X → ℕ) (xs : List X) → climbs g xs ≡ true → Climbs g xs
Climbs-from g [] h = tt
Climbs-from g (x ∷ xs) h =
    let parts = and_parts (list_all (λ y. nat_lt (g x) (g y)) xs) (climbs g xs) h in (all xs parts.0, Climbs-from g xs parts.1)
  where
    all : (ys : List _) → list_all (λ y. nat_lt (g x) (g y)) ys ≡ true → AllByRecursion (λ y. g x < g y) ys
    all [] k = tt
    all (y ∷ ys) k =
        let parts = and_parts (nat_lt (g x) (g y)) (list_all (λ z. nat_lt (g x) (g z)) ys) k in (ltb-true (g x) (g y) parts.0, all ys parts.1)

option_or-none : {V : Type 0} (w : Option V) → option_or w None ≡ w
option_or-none None = refl
option_or-none (Some w) = refl

-- ---- what stands at a key

none_later : {X : Type 0} (g : X → ℕ) (n m : ℕ) (xs : List X) → AllByRecursion (λ y. m < g y) xs → m ≡ n → find (λ x. g x == n) xs ≡ None
none_later g n m [] a e = refl
none_later g n m (x ∷ xs) a e =
    cond-false (g x == n) (Some x) (find (λ y. g y == n) xs) (ne_eqb (g x) n (λ s. absurd (omega arith))) ∙ none_later g n m xs a.1 e

-- parts whose numbers climb, each of which answers at its number alone: that part answers
pub pick : {X V : Type 0} (g : X → ℕ) (f : X → List (Key × V)) (v : X → Option V) (q : Key) (n : ℕ)
    → ((x : X) → value_at key_cmp (f x) q ≡ cond (g x == n) (v x) None) → (xs : List X) → Climbs g xs
    → value_at key_cmp (flat_map f xs) q ≡ option_and_then v (find (λ x. g x == n) xs)
pick g f v q n each [] c = refl
pick {X = X} {V = V} g f v q n each (x ∷ xs) c =
    value_at-append key_cmp (f x) (flat_map f xs) q ∙ ap (λ w. option_or w (value_at key_cmp (flat_map f xs) q)) (each x)
    ∙ ap (λ w. option_or (cond (g x == n) (v x) None) w) (pick g f v q n each xs c.1) ∙ by (g x == n) refl
  where
    by : (b : Bool) → (g x == n) ≡ b
        → option_or (cond b (v x) None) (option_and_then v (find (λ y. g y == n) xs)) ≡ option_and_then v (cond b (Some x) (find (λ y. g y == n) xs))
    by true e = ap (λ (o : Option X). option_or (v x) (option_and_then v o)) (none_later g n (g x) xs c.0 (eqb-true (g x) n e)) ∙ option_or-none (v x)
    by false e = refl

-- parts under numbers, of which each answers at its number alone, and all alike: the answer, if the number is among them
pub pick_alike : {V : Type 0} (f : ℕ → List (Key × V)) (w : Option V) (q : Key) (n : ℕ) → ((x : ℕ) → value_at key_cmp (f x) q ≡ cond (x == n) w None)
    → (xs : List ℕ) → value_at key_cmp (flat_map f xs) q ≡ cond (list_any (λ x. x == n) xs) w None
pick_alike f w q n each [] = refl
pick_alike {V = V} f w q n each (x ∷ xs) =
    value_at-append key_cmp (f x) (flat_map f xs) q ∙ ap (λ o. option_or o (value_at key_cmp (flat_map f xs) q)) (each x)
    ∙ ap (λ o. option_or (cond (x == n) w None) o) (pick_alike f w q n each xs) ∙ by (x == n) (list_any (λ y. y == n) xs) w
  where
    by : (b c : Bool) (w : Option V) → option_or (cond b w None) (cond c w None) ≡ cond (b || c) w None
    by true true None = refl
    by true true (Some w) = refl
    by true false w = option_or-none w
    by false c w = refl

-- ---- they rise

later_parts : {X V : Type 0} (g : X → ℕ) (In : X → Key → Type 0) (f : X → List (Key × V))
    → ((x y : X) → g x < g y → (p q : Key) → In x p → In y q → key_cmp p q ≡ Less) → ((x : X) → AllByRecursion (λ r. In x r.0) (f x))
    → (x : X) (p : Key) → In x p → (xs : List X) → AllByRecursion (λ y. g x < g y) xs → Above key_cmp p (flat_map f xs)
later_parts g In f order inside x p here [] a = tt
later_parts g In f order inside x p here (y ∷ ys) a =
    All-append (λ r. key_cmp p r.0 ≡ Less) (f y) (flat_map f ys)
    (All-more (λ r. In y r.0) (λ r. key_cmp p r.0 ≡ Less) (λ r. order x y a.0 p r.0 here) (f y) (inside y))
    (later_parts g In f order inside x p here ys a.1)

pub Rises-joined : {X V : Type 0} (g : X → ℕ) (In : X → Key → Type 0) (f : X → List (Key × V))
    → ((x y : X) → g x < g y → (p q : Key) → In x p → In y q → key_cmp p q ≡ Less) → ((x : X) → AllByRecursion (λ r. In x r.0) (f x))
    → (xs : List X) → ((x : X) → Among x xs → Rises key_cmp (f x)) → Climbs g xs → Rises key_cmp (flat_map f xs)
Rises-joined g In f order inside [] rises c = tt
Rises-joined g In f order inside (x ∷ xs) rises c =
    Rises-append key_total (f x) (flat_map f xs) (rises x (inl refl)) (Rises-joined g In f order inside xs (λ y m. rises y (inr m)) c.1)
    (All-more (λ r. In x r.0) (λ r. Above key_cmp r.0 (flat_map f xs)) (λ r here. later_parts g In f order inside x r.0 here xs c.0) (f x) (inside x))
