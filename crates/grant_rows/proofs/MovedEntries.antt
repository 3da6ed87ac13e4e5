-- The counts that steps move, as entries of a map: what one step does to them, and which changes they make at the end.
use Rattle.std.proofs.Common.{◌≡◌, ◌≢◌, ℕ, ◌+◌, ◌-◌, ◌==◌, ◌&&◌, not, Bool, true, false, cond, Option, Some, None, unwrap_or, List, [], ◌∷◌, ◌++◌, map, filter, inl, inr, refl, sym, ◌∙◌, ap, subst, arith, append_assoc, eqb-true, Less}
use Rattle.std.proofs.lemmas.Bool.{and_parts, and_from, cond-true, cond-false}
use Rattle.std.proofs.lemmas.Grind.{common_steps}
use Rattle.std.proofs.lemmas.Map.Keys.{sorted_head, sorted_tail}
use Rattle.std.proofs.lemmas.Option.{same_Some}
use Rattle.std.specs.List.{AllByRecursion, list_all}
use Rattle.std.specs.List.Sorted.{IsStrictlySortedBy}
use Rattle.std.specs.Map.{lookup, keys_of}
use Rattle.std.specs.BTreeMap.{is_at}
use Rattle.std.specs.Ordering.{nat_cmp, ordering_then, is_eq}
use Rattle.ctrl_model.specs.declared.formats.Format.{Format}
use Rattle.ctrl_model.specs.declared.kinds.Relation.{Relation}
use Rattle.ctrl_model.specs.Membership.{Among}
use Rattle.ctrl_model.proofs.Members.{Among-map, by_map, Among-filter, by_filter}
use Rattle.grant_denorm.specs.declared.deltas.Delta.{Delta}
use Rattle.grant_denorm.specs.PairCounts.{count_of}
use Rattle.grant_denorm.specs.Deltas.{ups, downs}
use Rattle.row_codec.specs.declared.changes.Change.{Change}
use Rattle.row_codec.specs.RowKeys.{is_long}
use Rattle.row_codec.specs.RowDifference.{Rises}
use Rattle.row_laws.specs.ChangedKeys.{pair_cmp}
use Rattle.grant_rows.specs.CountChanges.{change_from, count_after, AreCountChanges}
use Rattle.grant_rows.specs.MovedCounts.{count_so_far, differs, entry_changes}

abbrev pub Entries : Type 0
Entries = List ((ℕ × ℕ) × ℕ)

is_at-pair : (a b p q : ℕ) → is_eq (ordering_then (nat_cmp a p) (nat_cmp b q)) ≡ ((a == p) && (b == q))
is_at-pair a b p q = grind (arith, common_steps)

-- ---- one step

pub moved_by_step : (counts old new : Entries) (a b w : ℕ) (up : Bool)
    → ((q : ℕ × ℕ) → lookup (is_at (pair_cmp q)) new ≡ cond (is_at (pair_cmp (a, b)) q) (Some w) (lookup (is_at (pair_cmp q)) old))
    → w + cond (not up) 1 0 ≡ count_so_far old counts a b + cond up 1 0
    → (p q : ℕ) → count_so_far new counts p q + cond (not up && ((a == p) && (b == q))) 1 0 ≡ count_so_far old counts p q + cond (up && ((a == p) && (b == q))) 1 0
moved_by_step counts old new a b w up holds e p q =
    ap (λ o. unwrap_or o (count_of counts p q) + cond (not up && ((a == p) && (b == q))) 1 0)
    (holds (p, q) ∙ ap (λ t. cond t (Some w) (lookup (is_at (pair_cmp (p, q))) old)) (is_at-pair a b p q))
    ∙ by up ((a == p) && (b == q)) refl e
  where
    same : (x y : ℕ) → x ≡ a → y ≡ b → count_so_far old counts a b ≡ count_so_far old counts x y
    same x y f g = λ i. count_so_far old counts (sym f i) (sym g i)

    here : ((a == p) && (b == q)) ≡ true → count_so_far old counts a b ≡ count_so_far old counts p q
    here t = let parts = and_parts (a == p) (b == q) t in same p q (sym (eqb-true a p parts.0)) (sym (eqb-true b q parts.1))

    by : (u t : Bool) → ((a == p) && (b == q)) ≡ t → w + cond (not u) 1 0 ≡ count_so_far old counts a b + cond u 1 0
        → unwrap_or (cond t (Some w) (lookup (is_at (pair_cmp (p, q))) old)) (count_of counts p q) + cond (not u && t) 1 0 ≡ count_so_far old counts p q + cond (u && t) 1 0
    by true true t f = f ∙ ap (λ n. n + 1) (here t)
    by false true t f = f ∙ ap (λ n. n + 0) (here t)
    by true false t f = refl
    by false false t f = refl

-- ---- what stands in the map

abbrev pub are_long : Entries → Bool
are_long es = list_all (λ (e : (ℕ × ℕ) × ℕ). is_long e.0.0 && is_long e.0.1) es

tied : (p : ℕ × ℕ) → is_eq (pair_cmp p p) ≡ true
tied p = at p.0 p.1
  where
    at : (a b : ℕ) → is_eq (ordering_then (nat_cmp a a) (nat_cmp b b)) ≡ true
    at a b = grind (arith, common_steps)

apart : (p q : ℕ × ℕ) → pair_cmp p q ≡ Less → is_eq (pair_cmp q p) ≡ false
apart p q e = at p.0 p.1 q.0 q.1 e
  where
    at : (a b x y : ℕ) → ordering_then (nat_cmp a x) (nat_cmp b y) ≡ Less → is_eq (ordering_then (nat_cmp x a) (nat_cmp y b)) ≡ false
    at a b x y e = grind (arith, common_steps)

later : (k : ℕ × ℕ) (es : Entries) (e : (ℕ × ℕ) × ℕ) → AllByRecursion (λ y. pair_cmp k y ≡ Less) (keys_of es) → Among e es → pair_cmp k e.0 ≡ Less
later k [] e a m = absurd m
later k (x ∷ xs) e a (inl s) = subst (λ (z : (ℕ × ℕ) × ℕ). pair_cmp k z.0 ≡ Less) s a.0
later k (x ∷ xs) e a (inr m) = later k xs e a.1 m

found : (es : Entries) (e : (ℕ × ℕ) × ℕ) → IsStrictlySortedBy pair_cmp (keys_of es) → Among e es → lookup (is_at (pair_cmp e.0)) es ≡ Some e.1
found [] e s m = absurd m
found (x ∷ xs) e s (inl same) =
    subst (λ (z : (ℕ × ℕ) × ℕ). lookup (is_at (pair_cmp z.0)) (x ∷ xs) ≡ Some z.1) same
    (cond-true (is_eq (pair_cmp x.0 x.0)) (Some x.1) (lookup (is_at (pair_cmp x.0)) xs) (tied x.0))
found (x ∷ xs) e s (inr m) =
    cond-false (is_eq (pair_cmp e.0 x.0)) (Some x.1) (lookup (is_at (pair_cmp e.0)) xs) (apart x.0 e.0 (later x.0 xs e (sorted_head pair_cmp x.0 (keys_of xs) s) m))
    ∙ found xs e (sorted_tail pair_cmp x.0 (keys_of xs) s) m

there : (es : Entries) (p : ℕ × ℕ) (v : ℕ) → lookup (is_at (pair_cmp p)) es ≡ Some v → Among (p, v) es
there [] p v e = absurd cc
there (x ∷ xs) p v e = by (is_eq (pair_cmp p x.0)) (there xs p v) refl e
  where
    by : (t : Bool) → (lookup (is_at (pair_cmp p)) xs ≡ Some v → Among (p, v) xs) → is_eq (pair_cmp p x.0) ≡ t → cond t (Some x.1) (lookup (is_at (pair_cmp p)) xs) ≡ Some v → Among (p, v) (x ∷ xs)
    by true k t f =
        let parts = and_parts (p.0 == x.0.0) (p.1 == x.0.1) (sym (is_at-pair p.0 p.1 x.0.0 x.0.1) ∙ t) in
        inl (λ i. ((sym (eqb-true p.0 x.0.0 parts.0) i, sym (eqb-true p.1 x.0.1 parts.1) i), same_Some x.1 v f i))
    by false k t f = inr (k f)

-- ---- the changes at the end

module _ (f : Format) (r : Relation) (counts : Entries) (ds : List Delta) where
  abbrev pub AreMoved : Entries → Type 0
  AreMoved es = (p q : ℕ) → count_so_far es counts p q + downs ds p q ≡ count_of counts p q + ups ds p q

  moved_entry : (es : Entries) (e : (ℕ × ℕ) × ℕ) → IsStrictlySortedBy pair_cmp (keys_of es) → AreMoved es → Among e es
      → e.1 + downs ds e.0.0 e.0.1 ≡ count_of counts e.0.0 e.0.1 + ups ds e.0.0 e.0.1
  moved_entry es e s h m =
      ap (λ o. unwrap_or o (count_of counts e.0.0 e.0.1) + downs ds e.0.0 e.0.1) (sym (found es e s m)) ∙ h e.0.0 e.0.1

  abbrev pub kept_pairs : Entries → List (ℕ × ℕ)
  kept_pairs es = map (λ (e : (ℕ × ℕ) × ℕ). e.0) (filter (differs counts) es)

  named_by : (xs : Entries) → ((e : (ℕ × ℕ) × ℕ) → Among e xs → e.1 ≡ count_after counts ds e.0)
      → map (λ (e : (ℕ × ℕ) × ℕ). change_from f r e.0 (count_of counts e.0.0 e.0.1) e.1) xs
      ≡ map (λ (p : ℕ × ℕ). change_from f r p (count_of counts p.0 p.1) (count_after counts ds p)) (map (λ (e : (ℕ × ℕ) × ℕ). e.0) xs)
  named_by [] h = refl
  named_by (x ∷ xs) h = λ i. change_from f r x.0 (count_of counts x.0.0 x.0.1) (h x (inl refl) i) ∷ named_by xs (λ e m. h e (inr m)) i

  above : (k : ℕ × ℕ) (es : Entries) → AllByRecursion (λ y. pair_cmp k y ≡ Less) (keys_of es)
      → AllByRecursion (λ (y : (ℕ × ℕ) × (ℕ × ℕ)). pair_cmp k y.0 ≡ Less) (map (λ p. (p, p)) (kept_pairs es))
  above k [] a = tt
  above k (x ∷ xs) a = by (differs counts x) (above k xs a.1)
    where
      by : (t : Bool) → AllByRecursion (λ (y : (ℕ × ℕ) × (ℕ × ℕ)). pair_cmp k y.0 ≡ Less) (map (λ p. (p, p)) (kept_pairs xs))
          → AllByRecursion (λ (y : (ℕ × ℕ) × (ℕ × ℕ)). pair_cmp k y.0 ≡ Less)
          (map (λ p. (p, p)) (map (λ (e : (ℕ × ℕ) × ℕ). e.0) (cond t (x ∷ filter (differs counts) xs) (filter (differs counts) xs))))
      by true b = (a.0, b)
      by false b = b

  rising : (es : Entries) → IsStrictlySortedBy pair_cmp (keys_of es) → Rises pair_cmp (map (λ p. (p, p)) (kept_pairs es))
  rising [] s = tt
  rising (x ∷ xs) s = by (differs counts x) (above x.0 xs (sorted_head pair_cmp x.0 (keys_of xs) s)) (rising xs (sorted_tail pair_cmp x.0 (keys_of xs) s))
    where
      by : (t : Bool) → AllByRecursion (λ (y : (ℕ × ℕ) × (ℕ × ℕ)). pair_cmp x.0 y.0 ≡ Less) (map (λ p. (p, p)) (kept_pairs xs)) → Rises pair_cmp (map (λ p. (p, p)) (kept_pairs xs))
          → Rises pair_cmp (map (λ p. (p, p)) (map (λ (e : (ℕ × ℕ) × ℕ). e.0) (cond t (x ∷ filter (differs counts) xs) (filter (differs counts) xs))))
      by true a b = (a, b)
      by false a b = b

  fitting : (es : Entries) → are_long es ≡ true → list_all (λ (p : ℕ × ℕ). is_long p.0 && is_long p.1) (kept_pairs es) ≡ true
  fitting [] h = refl
  fitting (x ∷ xs) h = let parts = and_parts (is_long x.0.0 && is_long x.0.1) (are_long xs) h in by (differs counts x) parts.0 (fitting xs parts.1)
    where
      by : (t : Bool) → (is_long x.0.0 && is_long x.0.1) ≡ true → list_all (λ (p : ℕ × ℕ). is_long p.0 && is_long p.1) (kept_pairs xs) ≡ true
          → list_all (λ (p : ℕ × ℕ). is_long p.0 && is_long p.1) (map (λ (e : (ℕ × ℕ) × ℕ). e.0) (cond t (x ∷ filter (differs counts) xs) (filter (differs counts) xs))) ≡ true
      by true a b = and_from (is_long x.0.0 && is_long x.0.1) (list_all (λ (p : ℕ × ℕ). is_long p.0 && is_long p.1) (kept_pairs xs)) a b
      by false a b = b

  other : (v d k u : ℕ) → v + d ≡ k + u → not (k == v) ≡ true → u ≢ d
  other v d k u e h = grind (arith, common_steps)

  other_back : (v d k u : ℕ) → v + d ≡ k + u → u ≢ d → not (k == v) ≡ true
  other_back v d k u e h = grind (arith, common_steps)

  less_downs : (v d k u : ℕ) → v + d ≡ k + u → v ≡ k + u - d
  less_downs v d k u e = omega arith

  among_kept : (es : Entries) (p : ℕ × ℕ) (o : Option ℕ) → lookup (is_at (pair_cmp p)) es ≡ o → unwrap_or o (count_of counts p.0 p.1) + downs ds p.0 p.1 ≡ count_of counts p.0 p.1 + ups ds p.0 p.1
      → ups ds p.0 p.1 ≢ downs ds p.0 p.1 → Among p (kept_pairs es)
  among_kept es p None is h ne = absurd (ne (omega arith))
  among_kept es p (Some v) is h ne =
      Among-map (λ (e : (ℕ × ℕ) × ℕ). e.0) (filter (differs counts) es) (p, v)
      (Among-filter (differs counts) es (p, v) (there es p v is) (other_back v (downs ds p.0 p.1) (count_of counts p.0 p.1) (ups ds p.0 p.1) h ne))

  pub made_changes : (es : Entries) → IsStrictlySortedBy pair_cmp (keys_of es) → are_long es ≡ true → AreMoved es → AreCountChanges f r counts ds (entry_changes f r counts es)
  made_changes es s long h = record {
    pairs = kept_pairs es;
    named = named_by (filter (differs counts) es) (λ e m. by_filter (differs counts) es e m (λ n d. less_downs e.1 (downs ds e.0.0 e.0.1) (count_of counts e.0.0 e.0.1) (ups ds e.0.0 e.0.1) (moved_entry es e s h n)));
    rises = rising es s;
    fits = fitting es long;
    each = λ p m. by_map (λ (e : (ℕ × ℕ) × ℕ). e.0) (filter (differs counts) es) p m (λ e n same. by_filter (differs counts) es e n (λ k d.
        subst (λ (q : ℕ × ℕ). ups ds q.0 q.1 ≢ downs ds q.0 q.1) same
        (other e.1 (downs ds e.0.0 e.0.1) (count_of counts e.0.0 e.0.1) (ups ds e.0.0 e.0.1) (moved_entry es e s h k) d)));
    every = λ p ne. among_kept es p (lookup (is_at (pair_cmp p)) es) refl (h p.0 p.1) ne;
  }

-- ---- the changes as they are listed

entry_changes-cons : (f : Format) (r : Relation) (counts : Entries) (e : (ℕ × ℕ) × ℕ) (es : Entries) → entry_changes f r counts (e ∷ es) ≡ entry_changes f r counts (e ∷ []) ++ entry_changes f r counts es
entry_changes-cons f r counts e es = by (differs counts e)
  where
    by : (t : Bool) → map (λ x. change_from f r x.0 (count_of counts x.0.0 x.0.1) x.1) (cond t (e ∷ filter (differs counts) es) (filter (differs counts) es))
        ≡ map (λ x. change_from f r x.0 (count_of counts x.0.0 x.0.1) x.1) (cond t (e ∷ []) []) ++ entry_changes f r counts es
    by true = refl
    by false = refl

pub listed_one_more : (f : Format) (r : Relation) (counts whole its rest : Entries) (e : (ℕ × ℕ) × ℕ) (start done new : List Change) → its ≡ e ∷ rest
    → done ++ entry_changes f r counts its ≡ start ++ entry_changes f r counts whole → new ≡ done ++ entry_changes f r counts (e ∷ [])
    → new ++ entry_changes f r counts rest ≡ start ++ entry_changes f r counts whole
listed_one_more f r counts whole its rest e start done new is h n =
    ap (λ xs. xs ++ entry_changes f r counts rest) n ∙ append_assoc done (entry_changes f r counts (e ∷ [])) (entry_changes f r counts rest)
    ∙ ap (λ xs. done ++ xs) (sym (entry_changes-cons f r counts e rest)) ∙ ap (λ xs. done ++ entry_changes f r counts xs) (sym is) ∙ h

pub long_one_more : (whole its rest : Entries) (e : (ℕ × ℕ) × ℕ) → its ≡ e ∷ rest → are_long its ≡ are_long whole → (is_long e.0.0 && is_long e.0.1) ≡ true
    → are_long rest ≡ are_long whole
long_one_more whole its rest e is h long = by (is_long e.0.0 && is_long e.0.1) long ∙ ap are_long (sym is) ∙ h
  where
    by : (t : Bool) → t ≡ true → are_long rest ≡ (t && are_long rest)
    by true f = refl
    by false f = absurd cc
