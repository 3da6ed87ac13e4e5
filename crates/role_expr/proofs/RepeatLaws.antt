-- Lists of names without repeats: what one more name adds, and what form such a list has.
use Rattle.std.proofs.Common.{◌≡◌, ℕ, ◌+◌, ◌<◌, ◌≤◌, Bool, true, false, not, cond, ◌||◌, List, [], ◌∷◌, ◌++◌, length, take, get_or, refl, sym, ap, ◌∙◌, bytes_eq, arith}
use Rattle.std.specs.List.{filter, flat_map, list_all}
use Rattle.std.proofs.lemmas.Grind.{flat_map-append, take_at_read}
use Rattle.std.proofs.lemmas.Bool.{and_from, and_parts, both_ways, false_from_ne_true, not_from_false}
use Rattle.std.proofs.lemmas.List.{append-nil}
use Rattle.std.proofs.lemmas.List.Elements.{filter-append}
use Rattle.ctrl_model.specs.NameForm.{is_name}
use Rattle.ctrl_model.specs.Matches.{has_name}
use Rattle.ctrl_model.specs.ValueForms.{is_distinct}
use Rattle.ctrl_model.proofs.DistinctLaws.{same_name, same_bytes, is_distinct-filter}
use Rattle.ctrl_model.proofs.NumberedLaws.{length-filter-le}
use Rattle.ctrl_model.proofs.TableLaws.{list_all-filter}
use Rattle.role_expr.specs.NameRepeats.{without_repeats}

-- The list with a name at its end, unless it has it.
abbrev pub with_name : List (List ℕ) → List ℕ → List (List ℕ)
with_name ns n = cond (has_name ns n) ns (ns ++ n ∷ [])

-- The names of a list but one.
abbrev but : List ℕ → List (List ℕ) → List (List ℕ)
but n ns = filter (λ m. not (bytes_eq m n)) ns

has_name-but : (n : List ℕ) (ns : List (List ℕ)) (m : List ℕ) → bytes_eq n m ≡ false → has_name (but n ns) m ≡ has_name ns m
has_name-but n [] m e = refl
has_name-but n (k ∷ ns) m e = by (bytes_eq k n) refl (has_name-but n ns m e)
  where
    by : (b : Bool) → bytes_eq k n ≡ b → has_name (but n ns) m ≡ has_name ns m → has_name (cond (not b) (k ∷ but n ns) (but n ns)) m ≡ (bytes_eq k m || has_name ns m)
    by true is h = h ∙ sym (ap (λ b. b || has_name ns m) (ap (λ l. bytes_eq l m) (same_name k n is) ∙ e))
    by false is h = ap (λ b. bytes_eq k m || b) h

-- A name at the end of a list that leaves it out, and of one that leaves out another.
but-end_same : (n : List ℕ) (ns : List (List ℕ)) (m : List ℕ) → bytes_eq n m ≡ true → but n (ns ++ m ∷ []) ≡ but n ns
but-end_same n ns m e =
    let gone : bytes_eq m n ≡ true = same_bytes m n (sym (same_name n m e)) in
    filter-append (λ k. not (bytes_eq k n)) ns (m ∷ []) ∙ ap (λ b. but n ns ++ cond (not b) (m ∷ []) []) gone ∙ append-nil (but n ns)

but-end_other : (n : List ℕ) (ns : List (List ℕ)) (m : List ℕ) → bytes_eq n m ≡ false → but n (ns ++ m ∷ []) ≡ but n ns ++ m ∷ []
but-end_other n ns m e =
    let stays : bytes_eq m n ≡ false = false_from_ne_true (bytes_eq m n) (λ s. both_ways (bytes_eq n m) e (same_bytes n m (sym (same_name m n s)))) in
    filter-append (λ k. not (bytes_eq k n)) ns (m ∷ []) ∙ ap (λ b. but n ns ++ cond (not b) (m ∷ []) []) stays

but-with_name : (n : List ℕ) (ns : List (List ℕ)) (m : List ℕ) → n ∷ but n (with_name ns m) ≡ with_name (n ∷ but n ns) m
but-with_name n ns m = by (bytes_eq n m) (has_name ns m) refl refl
  where
    by : (b c : Bool) → bytes_eq n m ≡ b → has_name ns m ≡ c → n ∷ but n (cond c ns (ns ++ m ∷ [])) ≡ cond (bytes_eq n m || has_name (but n ns) m) (n ∷ but n ns) (n ∷ (but n ns ++ m ∷ []))
    by true true is has = rw is refl
    by true false is has = rw is (ap (λ l. n ∷ l) (but-end_same n ns m is))
    by false true is has = rw (is, has_name-but n ns m is, has) refl
    by false false is has = rw (is, has_name-but n ns m is, has) (ap (λ l. n ∷ l) (but-end_other n ns m is))

pub without_repeats-end : (ns : List (List ℕ)) (n : List ℕ) → without_repeats (ns ++ n ∷ []) ≡ with_name (without_repeats ns) n
without_repeats-end [] n = refl
without_repeats-end (m ∷ ns) n = ap (λ l. m ∷ but m l) (without_repeats-end ns n) ∙ but-with_name m (without_repeats ns) n

-- ---- the form of such a list

pub without_repeats-length : (ns : List (List ℕ)) → length (without_repeats ns) ≤ length ns
without_repeats-length [] = omega arith
without_repeats-length (n ∷ ns) = omega (arith, length-filter-le (λ m. not (bytes_eq m n)) (without_repeats ns), without_repeats-length ns)

pub without_repeats-names : (ns : List (List ℕ)) → list_all is_name ns ≡ true → list_all is_name (without_repeats ns) ≡ true
without_repeats-names [] e = refl
without_repeats-names (n ∷ ns) e =
    let parts = and_parts (is_name n) (list_all is_name ns) e in
    and_from (is_name n) (list_all is_name (but n (without_repeats ns))) parts.0
    (list_all-filter (λ m. not (bytes_eq m n)) is_name is_name (λ m p q. q) (without_repeats ns) (without_repeats-names ns parts.1))

has_name-but_same : (n : List ℕ) (ns : List (List ℕ)) → has_name (but n ns) n ≡ false
has_name-but_same n [] = refl
has_name-but_same n (m ∷ ns) = by (bytes_eq m n) refl (has_name-but_same n ns)
  where
    by : (b : Bool) → bytes_eq m n ≡ b → has_name (but n ns) n ≡ false → has_name (cond (not b) (m ∷ but n ns) (but n ns)) n ≡ false
    by true is h = h
    by false is h = ap (λ b. b || has_name (but n ns) n) is ∙ h

pub without_repeats-distinct : (ns : List (List ℕ)) → is_distinct (without_repeats ns) ≡ true
without_repeats-distinct [] = refl
without_repeats-distinct (n ∷ ns) =
    and_from (not (has_name (but n (without_repeats ns)) n)) (is_distinct (but n (without_repeats ns)))
    (not_from_false (has_name (but n (without_repeats ns)) n) (has_name-but_same n (without_repeats ns)))
    (is_distinct-filter (λ m. not (bytes_eq m n)) (without_repeats ns) (without_repeats-distinct ns))

-- ---- one more of what gives names

-- Of a list whose last gives one name.
pub repeats-more : {X : Type 0} (f : X → List (List ℕ)) (xs : List X) (x : X) (kept : List (List ℕ)) (n : List ℕ)
    → without_repeats (flat_map f xs) ≡ kept → f x ≡ n ∷ [] → without_repeats (flat_map f (xs ++ x ∷ [])) ≡ with_name kept n
repeats-more f xs x kept n so_far gives =
    ap without_repeats (flat_map-append f xs (x ∷ []) ∙ ap (λ l. flat_map f xs ++ (l ++ [])) gives)
    ∙ without_repeats-end (flat_map f xs) n ∙ ap (λ l. with_name l n) so_far

-- Of a list whose last gives none.
pub repeats-same : {X : Type 0} (f : X → List (List ℕ)) (xs : List X) (x : X) (kept : List (List ℕ))
    → without_repeats (flat_map f xs) ≡ kept → f x ≡ [] → without_repeats (flat_map f (xs ++ x ∷ [])) ≡ kept
repeats-same f xs x kept so_far gives =
    ap without_repeats (flat_map-append f xs (x ∷ []) ∙ ap (λ l. flat_map f xs ++ (l ++ [])) gives ∙ append-nil (flat_map f xs)) ∙ so_far

-- The same at an index of a list: the one there gives a name, or none.
pub repeats-at : {X : Type 0} (f : X → List (List ℕ)) (xs : List X) (i : ℕ) (x : X) (kept : List (List ℕ)) (n : List ℕ) → i < length xs → x ≡ get_or xs i x
    → without_repeats (flat_map f (take i xs)) ≡ kept → f x ≡ n ∷ [] → without_repeats (flat_map f (take (i + 1) xs)) ≡ with_name kept n
repeats-at f xs i x kept n below is so_far gives =
    ap (λ l. without_repeats (flat_map f l)) ((take_at_read xs i x below).1 ∙ ap (λ y. take i xs ++ y ∷ []) (sym is)) ∙ repeats-more f (take i xs) x kept n so_far gives

pub repeats-past : {X : Type 0} (f : X → List (List ℕ)) (xs : List X) (i : ℕ) (x : X) (kept : List (List ℕ)) → i < length xs → x ≡ get_or xs i x
    → without_repeats (flat_map f (take i xs)) ≡ kept → f x ≡ [] → without_repeats (flat_map f (take (i + 1) xs)) ≡ kept
repeats-past f xs i x kept below is so_far gives =
    ap (λ l. without_repeats (flat_map f l)) ((take_at_read xs i x below).1 ∙ ap (λ y. take i xs ++ y ∷ []) (sym is)) ∙ repeats-same f (take i xs) x kept so_far gives
