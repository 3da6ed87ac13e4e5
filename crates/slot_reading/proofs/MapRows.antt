-- The entries of a map as rows: what stands at a key, and what an insertion and a removal make of the rows.
use Rattle.std.proofs.Common.{◌≡◌, ℕ, Bool, true, false, cond, not, List, [], ◌∷◌, ◌++◌, filter, Option, None, Some, refl, sym, ◌∙◌, ap, subst, Ordering, Less, Equal, Greater, is_lt, is_eq, is_gt, bytes_eq, Bor}
use Rattle.std.proofs.lemmas.Cmp.{nat_list_cmp_total}
use Rattle.std.proofs.lemmas.Map.Lookups.{exact_bytes}
use Rattle.std.specs.declared.vec.Vec.{Vec}
use Rattle.std.specs.Option.{is_some, option_map, option_copied}
use Rattle.std.specs.Map.{lookup, remove_entry}
use Rattle.std.specs.BTreeMap.{insert_entry, is_at}
use Rattle.std.specs.Ordering.{match_ordering, ordering_reverse, nat_cmp}
use Rattle.std.specs.Cmp.Lexicographic.{slice_cmp}
use Rattle.row_codec.specs.RowDifference.{value_at, Rises, said_of, with_entry}
use Rattle.row_codec.specs.Batches.{bytes_cmp}
use Rattle.row_laws.proofs.RisingRows.{Above, Above-from, turned, turned_back}
use Rattle.row_laws.proofs.Differences.{Rises-with_entry}
use Rattle.slot_reading.specs.BatchRows.{ByteRows, rows_in}

-- The order of keys that a map keeps.
abbrev pub vec_cmp : {A : Type 0} → Vec ℕ A → Vec ℕ A → Ordering
vec_cmp x y = slice_cmp nat_cmp x.items y.items

-- How a key compares to those of a map.
abbrev pub to_vec : {A : Type 0} → List ℕ → Vec ℕ A → Ordering
to_vec q k = slice_cmp nat_cmp q k.items

-- Whether two keys tie does not hang on which of them comes first.
tie_back : (c d : Ordering) → d ≡ ordering_reverse c → is_eq d ≡ is_eq c
tie_back Less d e = ap is_eq e
tie_back Equal d e = ap is_eq e
tie_back Greater d e = ap is_eq e

pub ties_back : (p q : List ℕ) → is_eq (bytes_cmp p q) ≡ is_eq (bytes_cmp q p)
ties_back p q = tie_back (bytes_cmp q p) (bytes_cmp p q) (nat_list_cmp_total.antisymm p q)

-- What a map has at a key stands there in its rows.
pub looked_up : {A : Type 0} (entries : List (Vec ℕ A × List ℕ)) (q : List ℕ) → lookup (is_at (to_vec q)) entries ≡ value_at bytes_cmp (rows_in entries) q
looked_up [] q = refl
looked_up (e ∷ es) q =
    ap (λ (b : Bool). cond b (Some e.1) (lookup (is_at (to_vec q)) es)) (ties_back q e.0.items)
    ∙ ap (λ (o : Option (List ℕ)). cond (is_eq (bytes_cmp e.0.items q)) (Some e.1) o) (looked_up es q)

-- ---- rows above a key

above_none : (k : List ℕ) (rows : ByteRows) → Above bytes_cmp k rows → filter (λ x. is_lt (bytes_cmp x.0 k)) rows ≡ []
above_none k [] h = refl
above_none k (x ∷ xs) h =
    ap (λ (c : Ordering). cond (is_lt c) (x ∷ filter (λ x. is_lt (bytes_cmp x.0 k)) xs) (filter (λ x. is_lt (bytes_cmp x.0 k)) xs)) (turned nat_list_cmp_total k x.0 h.0)
    ∙ above_none k xs h.1

above_all : (k : List ℕ) (rows : ByteRows) → Above bytes_cmp k rows → filter (λ x. is_gt (bytes_cmp x.0 k)) rows ≡ rows
above_all k [] h = refl
above_all k (x ∷ xs) h =
    ap (λ (c : Ordering). cond (is_gt c) (x ∷ filter (λ x. is_gt (bytes_cmp x.0 k)) xs) (filter (λ x. is_gt (bytes_cmp x.0 k)) xs)) (turned nat_list_cmp_total k x.0 h.0)
    ∙ ap (λ (l : ByteRows). x ∷ l) (above_all k xs h.1)

above_stay : (k : List ℕ) (rows : ByteRows) → Above bytes_cmp k rows → filter (λ x. not (is_eq (bytes_cmp x.0 k))) rows ≡ rows
above_stay k [] h = refl
above_stay k (x ∷ xs) h =
    ap (λ (c : Ordering). cond (not (is_eq c)) (x ∷ filter (λ x. not (is_eq (bytes_cmp x.0 k))) xs) (filter (λ x. not (is_eq (bytes_cmp x.0 k))) xs)) (turned nat_list_cmp_total k x.0 h.0)
    ∙ ap (λ (l : ByteRows). x ∷ l) (above_stay k xs h.1)

-- ---- a row that is put

abbrev below : List ℕ → ByteRows → ByteRows
below k rows = filter (λ x. is_lt (bytes_cmp x.0 k)) rows

abbrev over : List ℕ → ByteRows → ByteRows
over k rows = filter (λ x. is_gt (bytes_cmp x.0 k)) rows

-- What stands before and behind a key, by how the first key compares to it.
split_at : (k : List ℕ) (v : List ℕ) (x : List ℕ × List ℕ) (xs : ByteRows) (c : Ordering) → bytes_cmp x.0 k ≡ c
    → below k (x ∷ xs) ++ (k, v) ∷ over k (x ∷ xs) ≡ cond (is_lt c) (x ∷ below k xs) (below k xs) ++ (k, v) ∷ cond (is_gt c) (x ∷ over k xs) (over k xs)
split_at k v x xs c e = ap (λ (d : Ordering). cond (is_lt d) (x ∷ below k xs) (below k xs) ++ (k, v) ∷ cond (is_gt d) (x ∷ over k xs) (over k xs)) e

-- Putting a row into rising rows is to insert it in its place.
pub inserted : (rows : ByteRows) (k v : List ℕ) → Rises bytes_cmp rows → insert_entry bytes_cmp rows k v ≡ with_entry bytes_cmp rows (k, Some v)
inserted [] k v r = refl
inserted (x ∷ xs) k v r = by (bytes_cmp k x.0) refl (inserted xs k v r.1)
  where
    by : (c : Ordering) → bytes_cmp k x.0 ≡ c → insert_entry bytes_cmp xs k v ≡ below k xs ++ (k, v) ∷ over k xs
        → match_ordering c ((k, v) ∷ x ∷ xs) ((x.0, v) ∷ xs) (x ∷ insert_entry bytes_cmp xs k v) ≡ below k (x ∷ xs) ++ (k, v) ∷ over k (x ∷ xs)
    by Less is h =
        let above : Above bytes_cmp k (x ∷ xs) = (is, Above-from nat_list_cmp_total k x.0 xs is r.0) in
        sym (ap (λ (l : ByteRows). l ++ (k, v) ∷ over k (x ∷ xs)) (above_none k (x ∷ xs) above) ∙ ap (λ (l : ByteRows). (k, v) ∷ l) (above_all k (x ∷ xs) above))
    by Equal is h =
        let same : k ≡ x.0 = exact_bytes k x.0 is in
        let above : Above bytes_cmp k xs = subst (λ (q : List ℕ). Above bytes_cmp q xs) (sym same) r.0 in
        let tie : bytes_cmp x.0 k ≡ Equal = nat_list_cmp_total.antisymm x.0 k ∙ ap ordering_reverse is in
        ap (λ (q : List ℕ). (q, v) ∷ xs) (sym same)
        ∙ sym (split_at k v x xs Equal tie ∙ ap (λ (l : ByteRows). l ++ (k, v) ∷ over k xs) (above_none k xs above) ∙ ap (λ (l : ByteRows). (k, v) ∷ l) (above_all k xs above))
    by Greater is h =
        ap (λ (l : ByteRows). x ∷ l) h ∙ sym (split_at k v x xs Less (turned_back nat_list_cmp_total k x.0 is))

-- ---- a row that is deleted

-- Deleting from rising rows is to take out the first row at the key.
pub removed : (rows : ByteRows) (k : List ℕ) → Rises bytes_cmp rows → remove_entry (is_at (bytes_cmp k)) rows ≡ with_entry bytes_cmp rows (k, None)
removed [] k r = refl
removed (x ∷ xs) k r = by (bytes_cmp k x.0) refl (removed xs k r.1)
  where
    rest : ByteRows
    rest = filter (λ x. not (is_eq (bytes_cmp x.0 k))) xs

    by : (c : Ordering) → bytes_cmp k x.0 ≡ c → remove_entry (is_at (bytes_cmp k)) xs ≡ rest
        → cond (is_eq c) xs (x ∷ remove_entry (is_at (bytes_cmp k)) xs) ≡ cond (not (is_eq (bytes_cmp x.0 k))) (x ∷ rest) rest
    by Less is h = rw (turned nat_list_cmp_total k x.0 is) (ap (λ (l : ByteRows). x ∷ l) h)
    by Equal is h =
        let same : k ≡ x.0 = exact_bytes k x.0 is in
        let above : Above bytes_cmp k xs = subst (λ (q : List ℕ). Above bytes_cmp q xs) (sym same) r.0 in
        let tie : bytes_cmp x.0 k ≡ Equal = nat_list_cmp_total.antisymm x.0 k ∙ ap ordering_reverse is in
        rw tie (sym (above_stay k xs above))
    by Greater is h = rw (turned_back nat_list_cmp_total k x.0 is) (ap (λ (l : ByteRows). x ∷ l) h)

-- ---- the same in a map

-- The rows of a map after an insertion.
pub rows_inserted : {A : Type 0} (entries : List (Vec ℕ A × List ℕ)) (k : Vec ℕ A) (v : List ℕ) → rows_in (insert_entry vec_cmp entries k v) ≡ insert_entry bytes_cmp (rows_in entries) k.items v
rows_inserted [] k v = refl
rows_inserted (e ∷ es) k v = by (vec_cmp k e.0) (rows_inserted es k v)
  where
    by : (c : Ordering) → rows_in (insert_entry vec_cmp es k v) ≡ insert_entry bytes_cmp (rows_in es) k.items v
        → rows_in (match_ordering c ((k, v) ∷ e ∷ es) ((e.0, v) ∷ es) (e ∷ insert_entry vec_cmp es k v))
        ≡ match_ordering c ((k.items, v) ∷ rows_in (e ∷ es)) ((e.0.items, v) ∷ rows_in es) ((e.0.items, e.1) ∷ insert_entry bytes_cmp (rows_in es) k.items v)
    by Less h = refl
    by Equal h = refl
    by Greater h = ap (λ (l : ByteRows). (e.0.items, e.1) ∷ l) h

-- The rows of a map after a removal.
pub rows_removed : {A : Type 0} (entries : List (Vec ℕ A × List ℕ)) (k : List ℕ) → rows_in (remove_entry (is_at (to_vec k)) entries) ≡ remove_entry (is_at (bytes_cmp k)) (rows_in entries)
rows_removed [] k = refl
rows_removed (e ∷ es) k = by (is_eq (bytes_cmp k e.0.items)) (rows_removed es k)
  where
    by : (b : Bool) → rows_in (remove_entry (is_at (to_vec k)) es) ≡ remove_entry (is_at (bytes_cmp k)) (rows_in es)
        → rows_in (cond b es (e ∷ remove_entry (is_at (to_vec k)) es)) ≡ cond b (rows_in es) ((e.0.items, e.1) ∷ remove_entry (is_at (bytes_cmp k)) (rows_in es))
    by true h = refl
    by false h = ap (λ (l : ByteRows). (e.0.items, e.1) ∷ l) h

-- What a put makes of a map's rows.
pub put_row : {A : Type 0} (old new : List (Vec ℕ A × List ℕ)) (k : Vec ℕ A) (v : List ℕ) → Rises bytes_cmp (rows_in old) → new ≡ insert_entry vec_cmp old k v
    → rows_in new ≡ with_entry bytes_cmp (rows_in old) (k.items, Some v)
put_row old new k v r e = ap rows_in e ∙ rows_inserted old k v ∙ inserted (rows_in old) k.items v r

-- What a deletion makes of them.
pub delete_row : {A : Type 0} (old new : List (Vec ℕ A × List ℕ)) (k : List ℕ) → Rises bytes_cmp (rows_in old) → new ≡ remove_entry (is_at (to_vec k)) old
    → rows_in new ≡ with_entry bytes_cmp (rows_in old) (k, None)
delete_row old new k r e = ap rows_in e ∙ rows_removed old k ∙ removed (rows_in old) k r

-- The rows rise after either.
pub still_rise : (old new : ByteRows) (k : List ℕ) (v : Option (List ℕ)) → Rises bytes_cmp old → new ≡ with_entry bytes_cmp old (k, v) → Rises bytes_cmp new
still_rise old new k v r e = subst (Rises bytes_cmp) (sym e) (Rises-with_entry nat_list_cmp_total exact_bytes old (k, v) r)

-- A deletion must be said exactly where a value is there.
pub said_none : (o : Option (List ℕ)) → is_some (said_of o None) ≡ is_some o
said_none None = refl
said_none (Some v) = refl

-- A put of equal bytes.
pub same_entry : (rows : ByteRows) {k l v w : List ℕ} → k ≡ l → v ≡ w → with_entry bytes_cmp rows (k, Some v) ≡ with_entry bytes_cmp rows (l, Some w)
same_entry rows {k} {l} {v} {w} e f = ap (λ (p : List ℕ). with_entry bytes_cmp rows (p, Some v)) e ∙ ap (λ (p : List ℕ). with_entry bytes_cmp rows (l, Some p)) f

-- A put must be said exactly where another value is there.
pub said_put : (old new : List ℕ) → is_some (said_of (Some old) (Some new)) ≡ not (bytes_eq old new)
said_put old new = by (bytes_eq old new)
  where
    by : (b : Bool) → is_some (cond b None (Some (Some new))) ≡ not b
    by true = refl
    by false = refl

-- A value that was lent, as it is there.
pub copied_is : (o : Option (Bor (List ℕ))) → option_map (λ v. v.now) o ≡ option_copied o
copied_is None = refl
copied_is (Some v) = refl
