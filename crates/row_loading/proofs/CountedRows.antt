-- Rows that are counts of a relation, as a list of counts: it rises, has at each pair what the rows have, and is as long as there are
-- such rows. Such a list beside counts among which it stands.
use Rattle.std.proofs.Common.{◌≡◌, ℕ, ◌+◌, ◌<◌, ◌==◌, nat_lt, ◌&&◌, ◌⊎◌, Bool, true, false, cond, List, [], ◌∷◌, ◌++◌, length, count_by, Option, None, Some, unwrap_or, inl, inr, refl, sym, ◌∙◌, ap, ap₂, subst, is_eq, arith, ltb-true, ltb-false, Less}
use Rattle.std.proofs.lemmas.Bool.{and_parts}
use Rattle.std.proofs.lemmas.Cmp.{nat_cmp_total, on_total, then_total}
use Rattle.std.proofs.lemmas.Grind.{common_steps}
use Rattle.std.proofs.lemmas.List.Recursion.{is_count_by}
use Rattle.std.specs.Cmp.{IsTotalOrder, tied_then}
use Rattle.std.specs.FinMap.{IsAntisymmetric}
use Rattle.std.specs.List.{AllByRecursion, list_all}
use Rattle.std.specs.Ordering.{nat_cmp, ordering_then}
use Rattle.ctrl_model.specs.declared.formats.Format.{Format}
use Rattle.ctrl_model.specs.declared.formats.Format.TheVariants.{One, Two}
use Rattle.ctrl_model.specs.declared.kinds.Relation.{Relation}
use Rattle.ctrl_model.specs.declared.kinds.Relation.TheVariants.{Dial, Bind, IdentityRouter, ServiceRouter}
use Rattle.ctrl_model.specs.Grants.{same_relation}
use Rattle.grant_denorm.specs.PairCounts.{same_pair, count_of, ComesFirst, AreCounts}
use Rattle.row_codec.specs.declared.rows.Row.{Row}
use Rattle.row_codec.specs.declared.rows.Row.TheVariants as row
use Rattle.row_codec.specs.RowForm.{is_row, key_of, is_count, is_short}
use Rattle.row_codec.specs.RowKeys.{Key, key_cmp, key_in, table_number, is_long}
use Rattle.row_codec.specs.RowKeys.RowTable.{Counts}
use Rattle.row_codec.specs.RowDifference.{value_at, Rises}
use Rattle.row_laws.specs.ChangedKeys.{pair_cmp}
use Rattle.row_laws.proofs.RisingRows.{Above}
use Rattle.row_laws.proofs.KeyOrders.{nat_cmp-equal, is_eq-nat_cmp, key_exact}
use Rattle.state_building.specs.RowForms.{by_row}
use Rattle.state_building.specs.BuiltStates.{count_said, count_in}
use Rattle.row_loading.specs.CountRows.{is_count_of}
use Rattle.row_loading.specs.LoadedRows.{keyed}
use Rattle.row_loading.proofs.RisingParts.{StandIn, ArePart, are_part}

-- ---- counts of a relation among rows

abbrev pub Pairs : Type 0
Pairs = List ((ℕ × ℕ) × ℕ)

-- what a row has as a count of a relation: its pair and its count, or nothing
abbrev pub counted_by : Relation → Row → Pairs
counted_by r x = by_row (record {
  next = λ k n. [];
  setting = λ cost. [];
  one = λ k n q. [];
  count = λ q a b c. cond (same_relation r q) (((a, b), c) ∷ []) [];
  intercept = λ n i. [];
  serial = λ n. [];
}) x

abbrev pub counted_in : Relation → List Row → Pairs
counted_in r [] = []
counted_in r (x ∷ xs) = counted_by r x ++ counted_in r xs

record IsCount (r : Relation) (x : Row) : Type 0 where
  pub left : ℕ
  pub right : ℕ
  pub count : ℕ
  pub counted : counted_by r x ≡ ((left, right), count) ∷ []
  pub said : (a b : ℕ) → count_said r a b x ≡ cond (left == a) (cond (right == b) (Some count) None) None
  pub is : is_count_of r x ≡ true
  pub key : key_of x ≡ key_in (Counts r) left right
  pub positive : (f : Format) → is_row f x ≡ true → 0 < count

record IsNoCount (r : Relation) (x : Row) : Type 0 where
  pub counted : counted_by r x ≡ []
  pub said : (a b : ℕ) → count_said r a b x ≡ None
  pub is : is_count_of r x ≡ false

other : {r : Relation} {x : Row} → counted_by r x ≡ [] → ((a b : ℕ) → count_said r a b x ≡ None) → is_count_of r x ≡ false → IsCount r x ⊎ IsNoCount r x
other e f g = inr (record { counted = e; said = f; is = g })

same_one : (r q : Relation) → same_relation r q ≡ true → r ≡ q
same_one Dial Dial e = refl
same_one Dial Bind e = absurd cc
same_one Dial IdentityRouter e = absurd cc
same_one Dial ServiceRouter e = absurd cc
same_one Bind Dial e = absurd cc
same_one Bind Bind e = refl
same_one Bind IdentityRouter e = absurd cc
same_one Bind ServiceRouter e = absurd cc
same_one IdentityRouter Dial e = absurd cc
same_one IdentityRouter Bind e = absurd cc
same_one IdentityRouter IdentityRouter e = refl
same_one IdentityRouter ServiceRouter e = absurd cc
same_one ServiceRouter Dial e = absurd cc
same_one ServiceRouter Bind e = absurd cc
same_one ServiceRouter IdentityRouter e = absurd cc
same_one ServiceRouter ServiceRouter e = refl

a_count : (r q : Relation) (x : Row) (left right count : ℕ) → counted_by r x ≡ cond (same_relation r q) (((left, right), count) ∷ []) []
    → ((a b : ℕ) → count_said r a b x ≡ cond (same_relation r q) (cond (left == a) (cond (right == b) (Some count) None) None) None)
    → is_count_of r x ≡ same_relation r q → key_of x ≡ key_in (Counts q) left right → ((f : Format) → is_row f x ≡ true → 0 < count) → IsCount r x ⊎ IsNoCount r x
a_count r q x left right count e f g k p = by (same_relation r q) refl
  where
    by : (t : Bool) → same_relation r q ≡ t → IsCount r x ⊎ IsNoCount r x
    by true is = inl (record {
      left = left;
      right = right;
      count = count;
      counted = e ∙ ap (λ (t : Bool). cond t (((left, right), count) ∷ []) []) is;
      said = λ a b. f a b ∙ ap (λ (t : Bool). cond t (cond (left == a) (cond (right == b) (Some count) None) None) None) is;
      is = g ∙ is;
      key = k ∙ ap (λ (z : Relation). key_in (Counts z) left right) (sym (same_one r q is));
      positive = p;
    })
    by false is = inr (record {
      counted = e ∙ ap (λ (t : Bool). cond t (((left, right), count) ∷ []) []) is;
      said = λ a b. f a b ∙ ap (λ (t : Bool). cond t (cond (left == a) (cond (right == b) (Some count) None) None) None) is;
      is = g ∙ is;
    })

above_none : (a b c : ℕ) (f : Format) → (is_long a && (is_long b && is_count f c)) ≡ true → 0 < c
above_none a b c f h = by f (and_parts (is_long b) (is_count f c) (and_parts (is_long a) (is_long b && is_count f c) h).1).1
  where
    by : (f : Format) → is_count f c ≡ true → 0 < c
    by One h = ltb-true 0 c (and_parts (nat_lt 0 c) (is_long c) h).0
    by Two h = ltb-true 0 c (and_parts (nat_lt 0 c) (is_short c) h).0

told : (r : Relation) (x : Row) → IsCount r x ⊎ IsNoCount r x
told r (row.Next k next) = other refl (λ a b. refl) refl
told r (row.Setting cost) = other refl (λ a b. refl) refl
told r (row.Identity n name attributes) = other refl (λ a b. refl) refl
told r (row.Service n name attributes) = other refl (λ a b. refl) refl
told r (row.Router n name attributes cost through connected) = other refl (λ a b. refl) refl
told r (row.Link n name a b cost latency_a latency_b up) = other refl (λ p q. refl) refl
told r (row.ServicePolicy n name relation semantic identities services) = other refl (λ a b. refl) refl
told r (row.EdgeRouterPolicy n name semantic identities routers) = other refl (λ a b. refl) refl
told r (row.ServiceEdgeRouterPolicy n name semantic services routers) = other refl (λ a b. refl) refl
told r (row.Terminator n service router host instance cost precedence) = other refl (λ a b. refl) refl
told r (row.Circuit n identity service terminator ingress links) = other refl (λ a b. refl) refl
told r (row.Dial i s c) = a_count r Dial (row.Dial i s c) i.0 s.0 c refl (λ a b. refl) refl refl (above_none i.0 s.0 c)
told r (row.Bind i s c) = a_count r Bind (row.Bind i s c) i.0 s.0 c refl (λ a b. refl) refl refl (above_none i.0 s.0 c)
told r (row.IdentityRouter i s c) = a_count r IdentityRouter (row.IdentityRouter i s c) i.0 s.0 c refl (λ a b. refl) refl refl (above_none i.0 s.0 c)
told r (row.Intercept n i) = other refl (λ a b. refl) refl
told r (row.Serial n) = other refl (λ a b. refl) refl
told r (row.ServiceRouter i s c) = a_count r ServiceRouter (row.ServiceRouter i s c) i.0 s.0 c refl (λ a b. refl) refl refl (above_none i.0 s.0 c)

-- ---- there are as many as rows that are counts of the relation

pub length-counted : (r : Relation) (rows : List Row) → length (counted_in r rows) ≡ count_by (is_count_of r) rows
length-counted r rows = is_count_by (λ xs. length (counted_in r xs)) (is_count_of r) refl step rows
  where
    step : (x : Row) (xs : List Row) → length (counted_in r (x ∷ xs)) ≡ cond (is_count_of r x) (1 + length (counted_in r xs)) (length (counted_in r xs))
    step x xs = by (told r x)
      where
        by : IsCount r x ⊎ IsNoCount r x → length (counted_in r (x ∷ xs)) ≡ cond (is_count_of r x) (1 + length (counted_in r xs)) (length (counted_in r xs))
        by (inl c) = rw (c.counted, c.is) (omega arith)
        by (inr c) = rw (c.counted, c.is) refl

-- ---- what stands at a pair

is_eq-pair_cmp : (p : ℕ × ℕ) (a b : ℕ) → is_eq (pair_cmp p (a, b)) ≡ same_pair p (a, b)
is_eq-pair_cmp p a b = sym (tied_then (nat_cmp p.0 a) (nat_cmp p.1 b)) ∙ ap₂ (λ (s t : Bool). s && t) (is_eq-nat_cmp p.0 a) (is_eq-nat_cmp p.1 b)

or_none : (t : Bool) (n m : ℕ) (o : Option ℕ) → m ≡ unwrap_or o 0 → cond t n m ≡ unwrap_or (cond t (Some n) o) 0
or_none true n m o e = refl
or_none false n m o e = e

pub count_of-value : (xs : Pairs) (a b : ℕ) → count_of xs a b ≡ unwrap_or (value_at pair_cmp xs (a, b)) 0
count_of-value [] a b = refl
count_of-value (x ∷ xs) a b =
    rw (is_eq-pair_cmp x.0 a b) (or_none (same_pair x.0 (a, b)) x.1 (count_of xs a b) (value_at pair_cmp xs (a, b)) (count_of-value xs a b))

said_or : (s t : Bool) (n m : ℕ) → unwrap_or (cond s (cond t (Some n) None) None) m ≡ cond (s && t) n m
said_or true true n m = refl
said_or true false n m = refl
said_or false t n m = refl

pub count_in-counted : (r : Relation) (rows : List Row) (a b : ℕ) → count_in rows r a b ≡ count_of (counted_in r rows) a b
count_in-counted r [] a b = refl
count_in-counted r (x ∷ xs) a b = by (told r x) (count_in-counted r xs a b)
  where
    by : IsCount r x ⊎ IsNoCount r x → count_in xs r a b ≡ count_of (counted_in r xs) a b → unwrap_or (count_said r a b x) (count_in xs r a b) ≡ count_of (counted_by r x ++ counted_in r xs) a b
    by (inl c) e = rw (c.counted, c.said a b, e) (said_or (c.left == a) (c.right == b) c.count (count_of (counted_in r xs) a b))
    by (inr c) e = rw (c.counted, c.said a b, e) refl

-- ---- they rise, and are above 0

behind_table : (r : Relation) (a b x y : ℕ) → key_cmp (key_in (Counts r) a b) (key_in (Counts r) x y) ≡ Less → pair_cmp (a, b) (x, y) ≡ Less
behind_table r a b x y e =
    sym (ap (λ c. ordering_then c (pair_cmp (a, b) (x, y))) (nat_cmp-equal (table_number (Counts r)) (table_number (Counts r)) refl)) ∙ e

Above-counted : (v : Format) (r : Relation) (a b : ℕ) (rows : List Row) → Above key_cmp (key_in (Counts r) a b) (keyed v rows) → Above pair_cmp (a, b) (counted_in r rows)
Above-counted v r a b [] h = tt
Above-counted v r a b (x ∷ xs) h = by (told r x) (Above-counted v r a b xs h.1)
  where
    by : IsCount r x ⊎ IsNoCount r x → Above pair_cmp (a, b) (counted_in r xs) → Above pair_cmp (a, b) (counted_by r x ++ counted_in r xs)
    by (inl c) t =
        subst (λ (es : Pairs). Above pair_cmp (a, b) (es ++ counted_in r xs)) (sym c.counted)
        (behind_table r a b c.left c.right (subst (λ (k : Key). key_cmp (key_in (Counts r) a b) k ≡ Less) c.key h.0), t)
    by (inr c) t = subst (λ (es : Pairs). Above pair_cmp (a, b) (es ++ counted_in r xs)) (sym c.counted) t

pub Rises-counted : (v : Format) (r : Relation) (rows : List Row) → Rises key_cmp (keyed v rows) → Rises pair_cmp (counted_in r rows)
Rises-counted v r [] h = tt
Rises-counted v r (x ∷ xs) h = by (told r x) (Rises-counted v r xs h.1)
  where
    by : IsCount r x ⊎ IsNoCount r x → Rises pair_cmp (counted_in r xs) → Rises pair_cmp (counted_by r x ++ counted_in r xs)
    by (inl c) t =
        subst (λ (es : Pairs). Rises pair_cmp (es ++ counted_in r xs)) (sym c.counted)
        (Above-counted v r c.left c.right xs (subst (λ (k : Key). Above key_cmp k (keyed v xs)) c.key h.0), t)
    by (inr c) t = subst (λ (es : Pairs). Rises pair_cmp (es ++ counted_in r xs)) (sym c.counted) t

abbrev AreAbove : Pairs → Type 0
AreAbove xs = AllByRecursion (λ (x : (ℕ × ℕ) × ℕ). 0 < x.1) xs

AreAbove-counted : (v : Format) (r : Relation) (rows : List Row) → list_all (is_row v) rows ≡ true → AreAbove (counted_in r rows)
AreAbove-counted v r [] f = tt
AreAbove-counted v r (x ∷ xs) f =
    let parts = and_parts (is_row v x) (list_all (is_row v) xs) f in
    by (told r x) parts.0 (AreAbove-counted v r xs parts.1)
  where
    by : IsCount r x ⊎ IsNoCount r x → is_row v x ≡ true → AreAbove (counted_in r xs) → AreAbove (counted_by r x ++ counted_in r xs)
    by (inl c) g t = subst (λ (es : Pairs). AreAbove (es ++ counted_in r xs)) (sym c.counted) (c.positive v g, t)
    by (inr c) g t = subst (λ (es : Pairs). AreAbove (es ++ counted_in r xs)) (sym c.counted) t

above_first : (p : ℕ × ℕ) (xs : Pairs) → ComesFirst p xs → Above pair_cmp p xs
above_first p [] c = tt
above_first p (x ∷ xs) c = (before p.0 x.0.0 p.1 x.0.1 c.0, above_first p xs c.1)
  where
    before : (a x b y : ℕ) → cond (a == x) (nat_lt b y) (nat_lt a x) ≡ true → ordering_then (nat_cmp a x) (nat_cmp b y) ≡ Less
    before a x b y e = grind (arith, common_steps)

Rises-counts : (xs : Pairs) → AreCounts xs → Rises pair_cmp xs
Rises-counts [] c = tt
Rises-counts (x ∷ xs) c = (above_first x.0 xs c.1, Rises-counts xs c.2)

AreAbove-counts : (xs : Pairs) → AreCounts xs → AreAbove xs
AreAbove-counts [] c = tt
AreAbove-counts (x ∷ xs) c = (c.0, AreAbove-counts xs c.2)

value_above : (xs : Pairs) (q : ℕ × ℕ) (v : ℕ) → AreAbove xs → value_at pair_cmp xs q ≡ Some v → 0 < v
value_above [] q v a e = absurd cc
value_above (x ∷ xs) q v a e = by (is_eq (pair_cmp x.0 q)) e (value_above xs q v a.1)
  where
    by : (t : Bool) → cond t (Some x.1) (value_at pair_cmp xs q) ≡ Some v → (value_at pair_cmp xs q ≡ Some v → 0 < v) → 0 < v
    by true is h = let same : x.1 ≡ v = cc in subst (λ (n : ℕ). 0 < n) same a.0
    by false is h = h is

-- ---- the order of pairs

pair_total : IsTotalOrder pair_cmp
pair_total = then_total (on_total (λ (p : ℕ × ℕ). p.0) nat_cmp_total) (on_total (λ (p : ℕ × ℕ). p.1) nat_cmp_total)

pair_exact : IsAntisymmetric pair_cmp
pair_exact p q e =
    let same = key_exact (0, p.0, p.1) (0, q.0, q.1) e in
    λ i. ((same i).1, (same i).2)

-- ---- the counts of rows beside counts among which they stand

-- the counts of rows that are counted are these
abbrev pub AreKept : Pairs → Pairs → Type 0
AreKept xs ys = (a b : ℕ) → 0 < count_of xs a b → count_of xs a b ≡ count_of ys a b

some_value : (o : Option ℕ) (n : ℕ) → n ≡ unwrap_or o 0 → 0 < n → o ≡ Some n
some_value None n e h = absurd (omega arith)
some_value (Some m) n e h = ap Some (sym e)

stand_in : (xs ys : Pairs) → AreAbove xs → AreKept xs ys → StandIn pair_cmp xs ys
stand_in xs ys above kept q v e =
    let positive = value_above xs q v above e in
    let is : count_of xs q.0 q.1 ≡ v = count_of-value xs q.0 q.1 ∙ ap (λ (o : Option ℕ). unwrap_or o 0) e in
    let same = kept q.0 q.1 (omega (arith, positive, is)) in
    some_value (value_at pair_cmp ys q) v (sym is ∙ same ∙ count_of-value ys q.0 q.1) positive

part : (v : Format) (r : Relation) (rows : List Row) (ys : Pairs) → list_all (is_row v) rows ≡ true → Rises key_cmp (keyed v rows) → AreCounts ys
    → ((a b : ℕ) → 0 < count_in rows r a b → count_in rows r a b ≡ count_of ys a b) → ArePart pair_cmp (counted_in r rows) ys
part v r rows ys form rises counts kept =
    are_part pair_total pair_exact (counted_in r rows) ys (Rises-counted v r rows rises) (Rises-counts ys counts)
    (stand_in (counted_in r rows) ys (AreAbove-counted v r rows form)
    (λ a b h. let e = count_in-counted r rows a b in sym e ∙ kept a b (omega (arith, e, h))))

-- as many counts are all of them
pub none_lacks : (v : Format) (r : Relation) (rows : List Row) (ys : Pairs) (n m : ℕ) → list_all (is_row v) rows ≡ true → Rises key_cmp (keyed v rows) → AreCounts ys
    → ((a b : ℕ) → 0 < count_in rows r a b → count_in rows r a b ≡ count_of ys a b) → n ≡ count_by (is_count_of r) rows → m ≡ length ys → nat_lt n m ≡ false
    → (a b : ℕ) → count_in rows r a b ≡ count_of ys a b
none_lacks v r rows ys n m form rises counts kept e f h a b =
    let p = part v r rows ys form rises counts kept in
    let many = ltb-false n m h in
    let all = p.whole (omega (arith, length-counted r rows, e, f, many)) in
    count_in-counted r rows a b ∙ ap (λ (es : Pairs). count_of es a b) all

-- fewer lack one
pub one_lacks : (v : Format) (r : Relation) (rows : List Row) (ys : Pairs) (n m : ℕ) → list_all (is_row v) rows ≡ true → Rises key_cmp (keyed v rows) → AreCounts ys
    → ((a b : ℕ) → 0 < count_in rows r a b → count_in rows r a b ≡ count_of ys a b) → n ≡ count_by (is_count_of r) rows → m ≡ length ys → nat_lt n m ≡ true
    → (a : ℕ) × (b : ℕ) × (count_in rows r a b ≡ 0) × (0 < count_of ys a b)
one_lacks v r rows ys n m form rises counts kept e f h =
    let p = part v r rows ys form rises counts kept in
    let few = ltb-true n m h in
    let l = p.lacks (omega (arith, length-counted r rows, e, f, few)) in
    let a = l.key.0 in
    let b = l.key.1 in
    let none = count_in-counted r rows a b ∙ count_of-value (counted_in r rows) a b ∙ ap (λ (o : Option ℕ). unwrap_or o 0) l.absent in
    let is = count_of-value ys a b ∙ ap (λ (o : Option ℕ). unwrap_or o 0) l.there in
    let positive = value_above ys l.key l.value (AreAbove-counts ys counts) l.there in
    (a, b, none, omega (arith, is, positive))
