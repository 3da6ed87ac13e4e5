-- Laws of steps: how many steps up and down at a pair a row, a product, and the turns of an entity have.
use Rattle.std.proofs.Common.{◌≡◌, ℕ, ◌+◌, ◌<◌, ◌==◌, ◌&&◌, ◌||◌, not, Bool, true, false, cond, List, [], ◌∷◌, ◌++◌, map, zero, suc, length, take, get_or, refl, sym, ◌∙◌, ap, ap₂, arith, eqb-true, filter}
use Rattle.std.proofs.lemmas.Bool.{false_from_ne_true}
use Rattle.std.proofs.lemmas.Grind.{common_steps}
use Rattle.std.proofs.lemmas.List.Sums.{sum_by-cons, sum_by-append}
use Rattle.std.specs.List.{flat_map, sum_by, count_by}
use Rattle.ctrl_model.specs.Walks.{is_among}
use Rattle.ctrl_model.proofs.Members.{Among-from_test}
use Rattle.grant_denorm.specs.declared.deltas.Cross.{Cross}
use Rattle.grant_denorm.specs.declared.deltas.Delta.{Delta}
use Rattle.grant_denorm.specs.declared.deltas.Turn.{Turn}
use Rattle.grant_denorm.specs.PairCounts.{Ascends, AreThose}
use Rattle.grant_denorm.specs.CountsAfter.{goes, steps_at}
use Rattle.grant_denorm.specs.Deltas.{is_at, ups, downs, has_pair, is_entity_pair, turn_count, entity_ups, entity_downs}
use Rattle.grant_denorm.specs.Steps.{steps_of_row, steps_of_rows, steps_of_pair, steps_of_turn}
use Rattle.grant_denorm.proofs.MemberLaws.{AreThose-filter, is_among-those}

-- ---- counts in a list

pub count_by-mapped : {A B : Type 0} (p : B → Bool) (f : A → B) (q : A → Bool) → ((x : A) → p (f x) ≡ q x) → (xs : List A) → count_by p (map f xs) ≡ count_by q xs
count_by-mapped p f q same [] = refl
count_by-mapped p f q same (x ∷ xs) =
    sum_by-cons (λ y. cond (p y) 1 0) (f x) (map f xs) ∙ ap₂ (λ t n. cond t 1 0 + n) (same x) (count_by-mapped p f q same xs) ∙ sym (sum_by-cons (λ y. cond (q y) 1 0) x xs)

none_counted : {A : Type 0} (xs : List A) → count_by (λ x. false) xs ≡ 0
none_counted [] = refl
none_counted (x ∷ xs) = sum_by-cons (λ y. 0) x xs ∙ ap (λ n. 0 + n) (none_counted xs)

pub count_by-guarded : {A : Type 0} (t : Bool) (q : A → Bool) (xs : List A) → count_by (λ x. t && q x) xs ≡ cond t (count_by q xs) 0
count_by-guarded true q xs = refl
count_by-guarded false q xs = none_counted xs

nothing : (t : Bool) → ◌≡◌ {A = ℕ} 0 (cond t 0 0)
nothing true = refl
nothing false = refl

-- of numbers that ascend, one stands there once or not at all
pub counted_once : (b : ℕ) (ys : List ℕ) → Ascends ys → count_by (λ y. y == b) ys ≡ cond (is_among b ys) 1 0
counted_once b [] a = refl
counted_once b (y ∷ ys) a =
    sum_by-cons (λ z. cond (z == b) 1 0) y ys ∙ ap (λ n. cond (y == b) 1 0 + n) (counted_once b ys a.1)
    ∙ by (y == b) (is_among b ys) (λ e. false_from_ne_true (is_among b ys) (λ m. past y b (eqb-true y b e) (a.0 b (Among-from_test b ys m))))
  where
    past : (y b : ℕ) → y ≡ b → y < b → ⊥
    past y b e h = absurd (omega arith)

    by : (t m : Bool) → (t ≡ true → m ≡ false) → cond t 1 0 + cond m 1 0 ≡ cond (t || m) 1 0
    by true m k = ap (λ n. 1 + cond n 1 0) (k refl)
    by false true k = refl
    by false false k = refl

-- up to a place whose element passes fewer pass than in all
pub counted-within : {X : Type 0} (p : X → Bool) (xs : List X) (i : ℕ) (d : X) → i < length xs → p (get_or xs i d) ≡ true → count_by p (take i xs) < count_by p xs
counted-within p [] i d h e = absurd (omega (arith, h))
counted-within p (x ∷ xs) zero d h e =
    let one : ◌≡◌ {A = ℕ} (cond (p x) 1 0) 1 = ap (λ b. cond b 1 0) e in
    let all = sum_by-cons (λ y. cond (p y) 1 0) x xs in omega (arith, one, all)
counted-within p (x ∷ xs) (suc i) d h e =
    let rest = counted-within p xs i d (omega (arith, h)) e in
    let taken = sum_by-cons (λ y. cond (p y) 1 0) x (take i xs) in
    let all = sum_by-cons (λ y. cond (p y) 1 0) x xs in omega (arith, rest, taken, all)

-- ---- steps one way, at a pair

pub steps_at-append : (way : Bool) (ds es : List Delta) (a b : ℕ) → steps_at way (ds ++ es) a b ≡ steps_at way ds a b + steps_at way es a b
steps_at-append way ds es a b = sum_by-append (λ d. cond (goes way d.up && is_at a b d) 1 0) ds es

steps_at-row : (way up : Bool) (ys : List ℕ) (x a b : ℕ) → Ascends ys
    → steps_at way (steps_of_row up ys x) a b ≡ cond (goes way up) (cond (x == a) (cond (is_among b ys) 1 0) 0) 0
steps_at-row way up ys x a b asc =
    count_by-mapped (λ d. goes way d.up && is_at a b d) (λ y. record { a = x; b = y; up = up }) (λ y. goes way up && ((x == a) && (y == b))) (λ y. refl) ys
    ∙ count_by-guarded (goes way up) (λ y. (x == a) && (y == b)) ys
    ∙ ap (λ n. cond (goes way up) n 0) (count_by-guarded (x == a) (λ y. y == b) ys ∙ ap (λ n. cond (x == a) n 0) (counted_once b ys asc))

steps_at-rows : (way up : Bool) (g : ℕ → List ℕ) → ((x : ℕ) → Ascends (g x)) → (a b : ℕ) (xs : List ℕ) → Ascends xs
    → steps_at way (flat_map (λ x. steps_of_row up (g x) x) xs) a b ≡ cond (goes way up) (cond (is_among a xs) (cond (is_among b (g a)) 1 0) 0) 0
steps_at-rows way up g each a b [] asc = nothing (goes way up)
steps_at-rows way up g each a b (x ∷ xs) asc =
    steps_at-append way (steps_of_row up (g x) x) (flat_map (λ y. steps_of_row up (g y) y) xs) a b
    ∙ ap₂ (λ m n. m + n) (steps_at-row way up (g x) x a b (each x)) (steps_at-rows way up g each a b xs asc.1)
    ∙ by (goes way up) (x == a) (is_among a xs) (λ y. cond (is_among b (g y)) 1 0) (λ e. eqb-true x a e) (λ m. asc.0 a (Among-from_test a xs m))
  where
    by : (s t m : Bool) (f : ℕ → ℕ) → (t ≡ true → x ≡ a) → (m ≡ true → x < a)
        → cond s (cond t (f x) 0) 0 + cond s (cond m (f a) 0) 0 ≡ cond s (cond (t || m) (f a) 0) 0
    by false t m f e h = refl
    by true true true f e h = absurd (not_both x a (e refl) (h refl))
      where
        not_both : (x a : ℕ) → x ≡ a → x < a → ⊥
        not_both x a e h = absurd (omega arith)
    by true true false f e h = ap (λ y. f y + 0) (e refl) ∙ plain (f a)
      where
        plain : (n : ℕ) → n + 0 ≡ n
        plain n = omega arith
    by true false m f e h = plain (cond m (f a) 0)
      where
        plain : (n : ℕ) → 0 + n ≡ n
        plain n = omega arith

-- ---- the steps of one product that the other has not

pub steps_at-missing : (way up : Bool) (from other : Cross) (lefts rights : List ℕ) → AreThose (λ n. is_among n from.left) lefts → AreThose (λ n. is_among n from.right) rights
    → (a b : ℕ) → steps_at way (steps_of_rows up other.left rights (filter (λ n. not (is_among n other.right)) rights) lefts) a b
    ≡ cond (goes way up) (cond (has_pair from a b && not (has_pair other a b)) 1 0) 0
steps_at-missing way up from other lefts rights ls rs a b =
    steps_at-rows way up (λ x. cond (is_among x other.left) fresh rights) (λ x. either (is_among x other.left)) a b lefts ls.ascending
    ∙ ap (λ n. cond (goes way up) n 0)
    (ap (λ t. cond t (cond (is_among b (cond (is_among a other.left) fresh rights)) 1 0) 0) (is_among-those (λ n. is_among n from.left) lefts ls a)
    ∙ by (is_among a from.left) (is_among b from.right) (is_among a other.left) (is_among b other.right)
    (is_among-those (λ n. is_among n from.right && not (is_among n other.right)) fresh those b) (is_among-those (λ n. is_among n from.right) rights rs b))
  where
    fresh : List ℕ
    fresh = filter (λ n. not (is_among n other.right)) rights

    those : AreThose (λ n. is_among n from.right && not (is_among n other.right)) (filter (λ n. not (is_among n other.right)) rights)
    those = AreThose-filter (λ n. is_among n from.right) (λ n. not (is_among n other.right)) rights rs

    either : (t : Bool) → Ascends (cond t (filter (λ n. not (is_among n other.right)) rights) rights)
    either true = those.ascending
    either false = rs.ascending

    by : (l r ol or : Bool) → is_among b fresh ≡ (r && not or) → is_among b rights ≡ r
        → ◌≡◌ {A = ℕ} (cond l (cond (is_among b (cond ol fresh rights)) 1 0) 0) (cond ((l && r) && not (ol && or)) 1 0)
    by false r ol or f e = refl
    by true r true or f e = ap (λ t. cond t 1 0) f
    by true true false or f e = ap (λ t. cond t 1 0) e
    by true false false or f e = ap (λ t. cond t 1 0) e

-- the same, of a list that they are appended to, with each list told by an equation
pub steps_at-pushed : (way up : Bool) (from other : Cross) (old new : List Delta) (others rights fresh lefts some_rights some_lefts : List ℕ)
    → new ≡ old ++ steps_of_rows up others rights fresh lefts → others ≡ other.left → rights ≡ some_rights
    → fresh ≡ filter (λ n. not (is_among n other.right)) some_rights → lefts ≡ some_lefts
    → AreThose (λ n. is_among n from.left) some_lefts → AreThose (λ n. is_among n from.right) some_rights
    → (a b : ℕ) → steps_at way new a b ≡ steps_at way old a b + cond (goes way up) (cond (has_pair from a b && not (has_pair other a b)) 1 0) 0
steps_at-pushed way up from other old new others rights fresh lefts some_rights some_lefts e o r f l ls rs a b =
    ap (λ ds. steps_at way ds a b) (e ∙ ap (λ ds. old ++ ds) told)
    ∙ steps_at-append way old (steps_of_rows up other.left some_rights (filter (λ n. not (is_among n other.right)) some_rights) some_lefts) a b
    ∙ ap (λ n. steps_at way old a b + n) (steps_at-missing way up from other some_lefts some_rights ls rs a b)
  where
    told : steps_of_rows up others rights fresh lefts ≡ steps_of_rows up other.left some_rights (filter (λ n. not (is_among n other.right)) some_rights) some_lefts
    told = ap (λ xs. steps_of_rows up xs rights fresh lefts) o ∙ ap (λ xs. steps_of_rows up other.left xs fresh lefts) r
        ∙ ap (λ xs. steps_of_rows up other.left some_rights xs lefts) f ∙ ap (λ xs. steps_of_rows up other.left some_rights (filter (λ n. not (is_among n other.right)) some_rights) xs) l

-- ---- the steps of an entity

same_either_way : (m n : ℕ) → (m == n) ≡ (n == m)
same_either_way m n = grind (arith, common_steps)

pair_of_step : (way up : Bool) (x : ℕ) (on_left : Bool) (a b y : ℕ)
    → (goes way (steps_of_pair x on_left up y).up && is_at a b (steps_of_pair x on_left up y)) ≡ (goes way up && is_entity_pair x on_left a b y)
pair_of_step way up x true a b y = ap₂ (λ s t. goes way up && (s && t)) (same_either_way x a) (same_either_way y b)
pair_of_step way up x false a b y = ap (λ t. goes way up && t) (turned (y == a) (x == b) (a == y) (b == x) (same_either_way y a) (same_either_way x b))
  where
    turned : (s t u v : Bool) → s ≡ u → t ≡ v → (s && t) ≡ (v && u)
    turned true true u v e f = ap₂ (λ p q. p && q) f e
    turned true false u v e f = ap (λ p. p && u) f
    turned false true u v e f = ap₂ (λ p q. p && q) f e
    turned false false u v e f = ap (λ p. p && u) f

steps_at-turn : (way : Bool) (x : ℕ) (on_left : Bool) (turn : Turn) (a b : ℕ) → steps_at way (steps_of_turn x on_left turn) a b ≡ cond (goes way turn.up) (turn_count x on_left a b turn) 0
steps_at-turn way x on_left turn a b =
    count_by-mapped (λ d. goes way d.up && is_at a b d) (steps_of_pair x on_left turn.up) (λ y. goes way turn.up && is_entity_pair x on_left a b y)
    (λ y. pair_of_step way turn.up x on_left a b y) turn.partners
    ∙ count_by-guarded (goes way turn.up) (is_entity_pair x on_left a b) turn.partners

pub steps_at-turns : (way : Bool) (x : ℕ) (on_left : Bool) (a b : ℕ) (turns : List Turn)
    → steps_at way (flat_map (steps_of_turn x on_left) turns) a b ≡ sum_by (λ turn. cond (goes way turn.up) (turn_count x on_left a b turn) 0) turns
steps_at-turns way x on_left a b [] = refl
steps_at-turns way x on_left a b (turn ∷ turns) =
    steps_at-append way (steps_of_turn x on_left turn) (flat_map (steps_of_turn x on_left) turns) a b
    ∙ ap₂ (λ m n. m + n) (steps_at-turn way x on_left turn a b) (steps_at-turns way x on_left a b turns)
    ∙ sym (sum_by-cons (λ turn. cond (goes way turn.up) (turn_count x on_left a b turn) 0) turn turns)

pub ups-turns : (x : ℕ) (on_left : Bool) (turns : List Turn) (a b : ℕ) → ups (flat_map (steps_of_turn x on_left) turns) a b ≡ entity_ups x on_left turns a b
ups-turns x on_left turns a b = steps_at-turns true x on_left a b turns

pub downs-turns : (x : ℕ) (on_left : Bool) (turns : List Turn) (a b : ℕ) → downs (flat_map (steps_of_turn x on_left) turns) a b ≡ entity_downs x on_left turns a b
downs-turns x on_left turns a b = steps_at-turns false x on_left a b turns ∙ turned turns
  where
    either : (up : Bool) (n : ℕ) → cond (not up) n 0 ≡ cond up 0 n
    either true n = refl
    either false n = refl

    turned : (turns : List Turn) → sum_by (λ turn. cond (not turn.up) (turn_count x on_left a b turn) 0) turns ≡ entity_downs x on_left turns a b
    turned [] = refl
    turned (turn ∷ turns) =
        sum_by-cons (λ turn. cond (not turn.up) (turn_count x on_left a b turn) 0) turn turns
        ∙ ap₂ (λ m n. m + n) (either turn.up (turn_count x on_left a b turn)) (turned turns)
        ∙ sym (sum_by-cons (λ turn. cond turn.up 0 (turn_count x on_left a b turn)) turn turns)
