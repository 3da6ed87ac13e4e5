-- The last header with a key.
use Rattle.std.specs.Prelude.{IsNone, is_some, ◌↔◌}
use Rattle.std.proofs.Common.{◌≡◌, ℕ, Bool, true, false, cond, List, [], ◌∷◌, reverse, find, filter, None, Some, refl, sym, ap, ◌∙◌}
use Rattle.std.specs.declared.option.Option.{Option}
use Rattle.std.specs.Option.{option_or}
use Rattle.std.specs.List.{last_or}
use Rattle.std.proofs.lemmas.Bool.{eq-eqb, ne_eqb}
use Rattle.std.proofs.lemmas.Grind.{reverse_onto}
use Rattle.std.proofs.lemmas.List.Folds.{find-append}
use Rattle.channel_frame.specs.declared.frames.Header.{Header}
use Rattle.channel_frame.specs.HeaderValues.{has_key, last_header, IsWithout}

-- What counts only where nothing else is.
or_twice : {A : Type 0} (a o : Option A) (x : A) → option_or (option_or a (Some x)) o ≡ option_or a (Some x)
or_twice None o x = refl
or_twice (Some y) o x = refl

last_else : {A : Type 0} (o : Option A) (xs : List A) → last_or o xs ≡ option_or (last_or None xs) o
last_else o [] = refl
last_else o (x ∷ xs) =
    let mine = last_else (Some x) xs in
    mine ∙ sym (or_twice (last_or None xs) o x) ∙ ap (λ l. option_or l o) (sym mine)

-- The first from behind is the last from the front.
last_one : {A : Type 0} (b : Bool) (x : A) (xs : List A) → option_or (last_or None xs) (cond b (Some x) None) ≡ last_or None (cond b (x ∷ xs) xs)
last_one true x xs = sym (last_else (Some x) xs)
last_one false x xs = sym (last_else None xs)

pub find-reverse : {A : Type 0} (p : A → Bool) (xs : List A) → find p (reverse xs) ≡ last_or None (filter p xs)
find-reverse p [] = refl
find-reverse p (x ∷ xs) =
    ap (find p) (reverse_onto xs x [])
    ∙ find-append p (reverse xs) (x ∷ [])
    ∙ ap (λ l. option_or l (cond (p x) (Some x) None)) (find-reverse p xs)
    ∙ last_one (p x) x (filter p xs)

-- ---- none at all

last_some : {A : Type 0} (x : A) (xs : List A) → is_some (last_or (Some x) xs) ≡ true
last_some x [] = refl
last_some x (y ∷ ys) = last_some y ys

-- Where no last is found, the first is not kept, and there is none behind it.
none_first : {A : Type 0} (b : Bool) (x : A) (xs : List A) → IsNone (last_or None (cond b (x ∷ xs) xs)) → (b ≡ false) × IsNone (last_or None xs)
none_first true x xs none = let some = last_some x xs in absurd cc
none_first false x xs none = (refl, none)

none_then : {A : Type 0} (b : Bool) (x : A) (xs : List A) → b ≡ false → IsNone (last_or None xs) → IsNone (last_or None (cond b (x ∷ xs) xs))
none_then true x xs e none = absurd cc
none_then false x xs e none = none

without_from_none : (key : ℕ) (hs : List Header) → IsNone (last_header key hs) → IsWithout key hs
without_from_none key [] none = tt
without_from_none key (h ∷ hs) none =
    let both = none_first (has_key key h) h (filter (has_key key) hs) none in
    (λ same. let is = eq-eqb h.key key same in let other = both.0 in cc, without_from_none key hs both.1)

none_from_without : (key : ℕ) (hs : List Header) → IsWithout key hs → IsNone (last_header key hs)
none_from_without key [] without = refl
none_from_without key (h ∷ hs) without =
    none_then (has_key key h) h (filter (has_key key) hs) (ne_eqb h.key key without.0) (none_from_without key hs without.1)

-- What is found is none exactly where no header has the key.
pub none_without : (key : ℕ) (hs : List Header) (found : Option Header) → found ≡ last_header key hs → IsNone found ↔ IsWithout key hs
none_without key hs found is =
    (λ none. without_from_none key hs (sym (ap is_some is) ∙ none), λ without. ap is_some is ∙ none_from_without key hs without)
