-- What waits in a search: the least pair comes first, and the places that wait are those that have to.
use Rattle.std.proofs.Common.{◌≡◌, ℕ, zero, suc, ◌+◌, ◌<◌, ◌≤◌, ◌==◌, ◌⊎◌, true, false, cond, List, [], ◌∷◌, length, map, sum, refl, sym, ap, ◌∙◌, subst, arith, inl, inr, ⊎_elim, Less, Equal, Greater, Ok, Err, replicate, length-set, get_or-set_same, get_or-set_other}
use Rattle.std.specs.List.{All, AllByRecursion, Contains, slice_set}
use Rattle.std.specs.List.Sorted.{IsPermutation}
use Rattle.std.specs.Result.{OnOk}
use Rattle.std.specs.declared.result.Result.{Result}
use Rattle.std.specs.Ordering.{nat_cmp, ordering_then, is_lt}
use Rattle.std.specs.declared.cmp.Reverse.{Reverse}
use Rattle.std.proofs.lemmas.Bool.{cases_lt, cases_eq, lt-ltb, false≢true}
use Rattle.std.proofs.lemmas.List.{length-replicate, length-map}
use Rattle.std.proofs.lemmas.List.Elements.{All-cons, All-tail}
use Rattle.std.proofs.lemmas.List.Sorted.{IsPermutation-map, Contains-permutation, All-permutation, length_permutation}
use Rattle.std.proofs.lemmas.List.Sums.{sum_by-set}
use Rattle.ctrl_model.specs.Claims.{no_path}
use Rattle.path_certificate.specs.declared.graph.Step.{Step}
use Rattle.path_certificate.specs.Graphs.{GraphSeen, potential, improves}
use Rattle.path_search.specs.Supports.{lowered, Relaxed, AllFixed, Spread, places_of, IsWaiting, Grown}
use Rattle.path_search.proofs.Relaxations.{lowered_off, lowered_less}

-- a pair that none of the others exceeds in reversed order has the least potential
no_less : (a b c d : ℕ) → is_lt (ordering_then (nat_cmp c a) (nat_cmp d b)) ≡ false → a ≤ c
no_less a b c d h = elim (cases_lt c a) [
  | inl less ↦ absurd (false≢true (sym h ∙ ap (λ t. is_lt (ordering_then (cond t Less (cond (c == a) Equal Greater)) (nat_cmp d b))) (lt-ltb c a less)))
  | inr from ↦ from
]

pub least_of : (pair : ℕ × ℕ) (xs : List (Reverse (ℕ × ℕ)))
    → AllByRecursion (λ y. is_lt (ordering_then (nat_cmp y.0.0 pair.0) (nat_cmp y.0.1 pair.1)) ≡ false) xs
    → All (λ other. pair.0 ≤ other.0) (map (λ e. e.0) xs)
least_of pair [] h = λ k d less. absurd (omega arith)
least_of pair (x ∷ xs) h = All-cons (λ (other : ℕ × ℕ). pair.0 ≤ other.0) x.0 (map (λ e. e.0) xs) (no_less pair.0 pair.1 x.0.0 x.0.1 h.0) (least_of pair xs h.1)

-- ---- places that wait

at_front : (x : ℕ) (xs : List ℕ) → Contains (x ∷ xs) x
at_front x xs = (0, omega arith, refl)

behind_front : (x : ℕ) (xs : List ℕ) (v : ℕ) → Contains xs v → Contains (x ∷ xs) v
behind_front x xs v (k, less, is) = (suc k, omega (arith, less), is)

front_or_behind : (x : ℕ) (xs : List ℕ) (v : ℕ) → Contains (x ∷ xs) v → (x ≡ v) ⊎ Contains xs v
front_or_behind x xs v (zero, less, is) = inl is
front_or_behind x xs v (suc k, less, is) = inr (k, omega (arith, less), is)

-- the places after those that wait were told in another order
pub waiting_moved : (p fixed : List ℕ) (old new : List (ℕ × ℕ)) → IsPermutation old new → IsWaiting p fixed (places_of old)
    → IsWaiting p fixed (places_of new)
waiting_moved p fixed old new moved w =
    let same : IsPermutation (places_of old) (places_of new) = IsPermutation-map (λ e. e.1) old new moved in
    record {
      each = λ v place waits. Contains-permutation (places_of old) (places_of new) v same (w.each v place waits);
      places = All-permutation (λ v. v < length p) (places_of old) (places_of new) same w.places;
    }

-- the start of an improving step waits
pub grown_push : (g : GraphSeen) (t : ℕ) (p : List ℕ) (s : Step) (a : ℕ) (old new : List (ℕ × ℕ)) → s.from < length p
    → improves g.through t p s ≡ true → IsPermutation ((a, s.from) ∷ old) new → Grown p (lowered p s) (places_of old) (places_of new)
grown_push g t p s a old new within better moved =
    let same : IsPermutation (s.from ∷ places_of old) (places_of new) = IsPermutation-map (λ e. e.1) ((a, s.from) ∷ old) new moved in
    let to : (v : ℕ) → Contains (s.from ∷ places_of old) v → Contains (places_of new) v =
    λ v. Contains-permutation (s.from ∷ places_of old) (places_of new) v same in
    let long : length (places_of new) ≡ length (s.from ∷ places_of old) = length_permutation (s.from ∷ places_of old) (places_of new) same in
    let less = lowered_less g t p s within better in
    record {
      kept = λ v among. to v (behind_front s.from (places_of old) v among);
      fell = λ v fell. ⊎_elim (λ e. to v (subst (λ x. Contains (s.from ∷ places_of old) x) (sym e) (at_front s.from (places_of old))))
          (λ ne. let off = lowered_off p s v ne in absurd (omega arith)) (cases_eq v s.from);
      places = λ all.
          All-permutation (λ v. v < length p) (s.from ∷ places_of old) (places_of new) same
          (All-cons (λ v. v < length p) s.from (places_of old) within all);
      fewer = omega arith;
    }

pub grown_none : (p waiting : List ℕ) → Grown p p waiting waiting
grown_none p waiting = record {
  kept = λ v among. among;
  fell = λ v fell. absurd (omega arith);
  places = λ all. all;
  fewer = omega arith;
}

pub grown_on : (a b c x y z : List ℕ) → length b ≡ length a → Grown a b x y → Grown b c y z → Grown a c x z
grown_on a b c x y z same first next = record {
  kept = λ v among. next.kept v (first.kept v among);
  fell = λ v fell. ⊎_elim (λ (now : potential c v < potential b v). next.fell v now)
      (λ (before : potential b v ≤ potential c v). next.kept v (first.fell v (omega (arith, before, fell))))
      (cases_lt (potential c v) (potential b v));
  places = λ all. subst (λ n. All (λ v. v < n) z) same (next.places (subst (λ n. All (λ v. v < n) y) (sym same) (first.places all)));
  fewer = let f = first.fewer in let n = next.fewer in omega (arith, f, n);
}

-- a turn takes the first place, which is fixed then or was before
pub waiting_fixed : (g : GraphSeen) (t v : ℕ) (p fixed q waiting new : List ℕ) → Spread g t p fixed → Relaxed g t v p q → v < length g.through
    → IsWaiting p fixed (v ∷ waiting) → Grown p q waiting new → IsWaiting q (slice_set fixed v (potential p v)) new
waiting_fixed g t v p fixed q waiting new k r place w grown = record {
  each = λ u below waits. each u below waits (cases_eq u v);
  places = subst (λ n. All (λ u. u < n) new) (sym same) (grown.places (All-tail (λ u. u < length p) v waiting w.places));
}
  where
    same : length q ≡ length p
    same = r.supported.places ∙ sym k.supported.places

    at : potential (slice_set fixed v (potential p v)) v ≡ potential p v
    at = get_or-set_same fixed v (potential p v) 0 (subst (λ n. v < n) (sym k.places) place)

    each : (u : ℕ) → u < length q → potential q u < potential (slice_set fixed v (potential p v)) u → (u ≡ v) ⊎ (u ≡ v → ⊥) → Contains new u
    each u below waits (inl e) =
        let stay = r.stays in
        absurd (below_itself (potential q v) (subst (λ n. potential q v < n) (at ∙ sym stay) (subst (λ x. potential q x < potential (slice_set fixed v (potential p v)) x) e waits)))
      where
        below_itself : (n : ℕ) → n < n → ⊥
        below_itself n h = omega arith
    each u below waits (inr ne) =
        let off : potential (slice_set fixed v (potential p v)) u ≡ potential fixed u = get_or-set_other fixed v u (potential p v) 0 ne in
        ⊎_elim (λ (now : potential q u < potential p u). grown.fell u now)
        (λ (before : potential p u ≤ potential q u).
        let waited : potential p u < potential fixed u = omega (arith, before, waits, off) in
        ⊎_elim (λ e. absurd (ne (sym e))) (λ among. grown.kept u among)
        (front_or_behind v waiting u (w.each u (subst (λ n. u < n) same below) waited)))
        (cases_lt (potential q u) (potential p u))

pub waiting_stale : (p fixed waiting : List ℕ) (v : ℕ) → potential fixed v ≤ potential p v → IsWaiting p fixed (v ∷ waiting) → IsWaiting p fixed waiting
waiting_stale p fixed waiting v stale w = record {
  each = λ u below waits. ⊎_elim
      (λ (e : v ≡ u). let old : potential fixed u ≤ potential p u = subst (λ x. potential fixed x ≤ potential p x) e stale in absurd (omega (arith, old, waits)))
      (λ among. among) (front_or_behind v waiting u (w.each u below waits));
  places = All-tail (λ u. u < length p) v waiting w.places;
}

-- a turn that fixes a place lowers its fixed potential, and no potential rises but by a place that waits
pub fewer_fixed : (v : ℕ) (p fixed q : List ℕ) (waiting new : List (ℕ × ℕ)) → v < length fixed → potential p v < potential fixed v
    → Grown p q (places_of waiting) (places_of new)
    → length new + sum q + sum (slice_set fixed v (potential p v)) ≤ length waiting + sum p + sum fixed
fewer_fixed v p fixed q waiting new place waits grown =
    let moved : sum (slice_set fixed v (potential p v)) + potential fixed v ≡ sum fixed + potential p v = sum_by-set (λ x. x) fixed v (potential p v) 0 place in
    let few = grown.fewer in
    let before : length (places_of waiting) ≡ length waiting = length-map waiting (λ e. e.1) in
    let after : length (places_of new) ≡ length new = length-map new (λ e. e.1) in
    omega (arith, moved, few, waits, before, after)

pub on_ok_both : {T E P Q R : Type 0} (r : Result T E) → (P → Q → R) → OnOk r P → OnOk r Q → OnOk r R
on_ok_both (Ok x) f p q = f p q
on_ok_both (Err e) f p q = tt

-- where nothing waits, all potentials are fixed
pub none_waits : (p fixed : List ℕ) (waiting : List (ℕ × ℕ)) → waiting ≡ [] → IsWaiting p fixed (places_of waiting) → AllFixed p fixed
none_waits p fixed waiting none w = λ v place. ⊎_elim
    (λ (waits : potential p v < potential fixed v).
    let among : Contains (places_of waiting) v = w.each v place waits in
    absurd (nowhere v (subst (λ xs. Contains (places_of xs) v) none among)))
    (λ fixed_now. fixed_now) (cases_lt (potential p v) (potential fixed v))
  where
    nowhere : (v : ℕ) → Contains [] v → ⊥
    nowhere v (k, less, is) = omega (arith, less)

-- at the start the target alone waits
pub waiting_start : (places t : ℕ) (p fixed : List ℕ) (waiting : List (ℕ × ℕ)) → t < places → p ≡ slice_set (replicate places no_path) t 0
    → fixed ≡ replicate places no_path → IsPermutation ((0, t) ∷ []) waiting → IsWaiting p fixed (places_of waiting)
waiting_start places t p fixed waiting place start is moved =
    waiting_moved p fixed ((0, t) ∷ []) waiting moved (record {
      each = λ v below waits. ⊎_elim (λ e. subst (λ x. Contains (t ∷ []) x) (sym e) (at_front t []))
          (λ ne.
          let off : potential p v ≡ potential fixed v = ap (λ xs. potential xs v) start ∙ (get_or-set_other (replicate places no_path) t v 0 0 ne ∙ ap (λ xs. potential xs v) (sym is)) in
          absurd (omega (arith, off, waits))) (cases_eq v t);
      places = All-cons (λ v. v < length p) t [] (subst (λ n. t < n) (sym long) place) (λ k d less. absurd (omega arith));
    })
  where
    long : length p ≡ places
    long = ap length start ∙ (length-set (replicate places no_path) t 0 ∙ length-replicate places no_path)
