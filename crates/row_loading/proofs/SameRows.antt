-- Rows of a row's form are the same where their keys and their values are, and so are lists of rows that are put by the same changes.
use Rattle.std.proofs.Common.{◌≡◌, ℕ, ◌==◌, ◌&&◌, nat_lt, nat_le, not, Bool, true, false, List, [], ◌∷◌, map, Option, None, Some, option_map, refl, sym, ◌∙◌, ap, ap₂, eq-eqb, ltb-true, ◌^◌}
use Rattle.std.proofs.lemmas.Bool.{and_parts, both_ways}
use Rattle.std.specs.List.{list_all}
use Rattle.ctrl_model.specs.declared.formats.Format.{Format}
use Rattle.ctrl_model.specs.declared.formats.Format.TheVariants.{One, Two}
use Rattle.ctrl_model.specs.declared.kinds.Kind.TheVariants as kind
use Rattle.ctrl_model.specs.declared.kinds.Relation.TheVariants.{IdentityRouter, ServiceRouter}
use Rattle.ctrl_model.specs.declared.numbering.IdentityNo.{IdentityNo}
use Rattle.ctrl_model.specs.State.{start}
use Rattle.row_codec.specs.declared.rows.Row.{Row}
use Rattle.row_codec.specs.declared.rows.Row.TheVariants as row
use Rattle.row_codec.specs.declared.changes.Op.{Op}
use Rattle.row_codec.specs.declared.changes.Op.TheVariants.{Put, Delete}
use Rattle.row_codec.specs.RowKeys.{Key, is_long}
use Rattle.row_codec.specs.RowValues.{long, count_bytes}
use Rattle.row_codec.specs.RowForm.{is_row, key_of, value_of, policy_of, is_count, is_short, is_two}
use Rattle.row_laws.proofs.SpelledValues.{long_same, short_same, first_same, same_record, same_intercept, same_wide}
use Rattle.row_laws.proofs.SameStates.{key_same}
use Rattle.row_loading.specs.LoadedRows.{put_of}
use Rattle.row_loading.proofs.ReadRows.{is_key-key_of}

-- ---- numbers in rows

one_long : (m n : ℕ) → is_long m ≡ true → is_long n ≡ true → long m ≡ long n → m ≡ n
one_long m n h k e = (long_same m n [] [] h k e).0

next_long : (f : Format) (k n : ℕ) → is_row f (row.Next k n) ≡ true → is_long n ≡ true
next_long f k n h = (and_parts (nat_lt 1 n) (is_long n) (and_parts (nat_le 1 k && nat_le k 9) (nat_lt 1 n && is_long n) h).1).1

setting_long : (f : Format) (cost : ℕ) → is_row f (row.Setting cost) ≡ true → is_long cost ≡ true
setting_long f cost h = (and_parts (not (cost == start.least_router_cost)) (is_long cost) h).1

pub one_count : (f : Format) (c d : ℕ) → is_count f c ≡ true → is_count f d ≡ true → count_bytes f c ≡ count_bytes f d → c ≡ d
one_count One c d h k e = one_long c d (and_parts (nat_lt 0 c) (is_long c) h).1 (and_parts (nat_lt 0 d) (is_long d) k).1 e
one_count Two c d h k e = (short_same c d [] [] (and_parts (nat_lt 0 c) (is_short c) h).1 (and_parts (nat_lt 0 d) (is_short d) k).1 e).0

last_test : (f : Format) (a b : Bool) (c : ℕ) → (a && (b && is_count f c)) ≡ true → is_count f c ≡ true
last_test f a b c h = (and_parts b (is_count f c) (and_parts a (b && is_count f c) h).1).1

same_count : (f : Format) (a b a' b' : Bool) (c d : ℕ) → (a && (b && is_count f c)) ≡ true → (a' && (b' && is_count f d)) ≡ true → count_bytes f c ≡ count_bytes f d → c ≡ d
same_count f a b a' b' c d h g e = one_count f c d (last_test f a b c h) (last_test f a' b' d g) e

-- ---- one key and one value

rest_of : (a b : Bool) → (a && b) ≡ true → b ≡ true
rest_of a b h = (and_parts a b h).1

apart : (m n : ℕ) → (m == n) ≡ false → m ≡ n → ⊥
apart m n h e = both_ways (m == n) h (eq-eqb m n e)

host_wrapped : (host : Option IdentityNo) → option_map (λ n. record { 0 = n }) (option_map (λ (h : IdentityNo). h.0) host) ≡ host
host_wrapped None = refl
host_wrapped (Some h) = refl

same_form : (v : Format) (x y : Row) → is_row v x ≡ true → is_row v y ≡ true → key_of x ≡ key_of y → value_of v x ≡ value_of v y → x ≡ y
same_form v (row.Next k n) (row.Next j m) h g e f =
    let same = one_long n m (next_long v k n h) (next_long v j m g) f in λ i. row.Next (e i).1 (same i)
same_form v (row.Setting c) (row.Setting d) h g e f =
    let same = one_long c d (setting_long v c h) (setting_long v d g) f in λ i. row.Setting (same i)
same_form v (row.Identity n a b) (row.Identity m c d) h g e f =
    let same = same_record kind.Identity (record { name = a; attributes = b }) (record { name = c; attributes = d }) (rest_of (is_long n.0) _ h) (rest_of (is_long m.0) _ g) f in
    λ i. row.Identity (record { 0 = (e i).1 }) (same i).name (same i).attributes
same_form v (row.Service n a b) (row.Service m c d) h g e f =
    let same = same_record kind.Service (record { name = a; attributes = b }) (record { name = c; attributes = d }) (rest_of (is_long n.0) _ h) (rest_of (is_long m.0) _ g) f in
    λ i. row.Service (record { 0 = (e i).1 }) (same i).name (same i).attributes
same_form v (row.Router n a b c t o) (row.Router m a' b' c' t' o') h g e f =
    let same = same_record kind.Router (record { name = a; attributes = b; cost = c; through = t; connected = o })
    (record { name = a'; attributes = b'; cost = c'; through = t'; connected = o' }) (rest_of (is_long n.0) _ h) (rest_of (is_long m.0) _ g) f in
    λ i. row.Router (record { 0 = (e i).1 }) (same i).name (same i).attributes (same i).cost (same i).through (same i).connected
same_form v (row.Link n name a b cost u w up) (row.Link m name' a' b' cost' u' w' up') h g e f =
    let same = same_record kind.Link (record { name = name; a = a.0; b = b.0; cost = cost; latency_a = u; latency_b = w; up = up })
    (record { name = name'; a = a'.0; b = b'.0; cost = cost'; latency_a = u'; latency_b = w'; up = up' }) (rest_of (is_long n.0) _ h) (rest_of (is_long m.0) _ g) f in
    λ i. row.Link (record { 0 = (e i).1 }) (same i).name (record { 0 = (same i).a }) (record { 0 = (same i).b }) (same i).cost (same i).latency_a (same i).latency_b (same i).up
same_form v (row.ServicePolicy n a r s x y) (row.ServicePolicy m a' r' s' x' y') h g e f =
    let same = same_record kind.ServicePolicy (policy_of a r s x y) (policy_of a' r' s' x' y') (rest_of (is_long n.0) _ h) (rest_of (is_long m.0) _ g) f in
    λ i. row.ServicePolicy (record { 0 = (e i).1 }) (same i).name (same i).relation (same i).semantic (same i).left (same i).right
same_form v (row.EdgeRouterPolicy n a s x y) (row.EdgeRouterPolicy m a' s' x' y') h g e f =
    let same = same_record kind.EdgeRouterPolicy (policy_of a IdentityRouter s x y) (policy_of a' IdentityRouter s' x' y') (rest_of (is_long n.0) _ h) (rest_of (is_long m.0) _ g) f in
    λ i. row.EdgeRouterPolicy (record { 0 = (e i).1 }) (same i).name (same i).semantic (same i).left (same i).right
same_form v (row.ServiceEdgeRouterPolicy n a s x y) (row.ServiceEdgeRouterPolicy m a' s' x' y') h g e f =
    let same = same_record kind.ServiceEdgeRouterPolicy (policy_of a ServiceRouter s x y) (policy_of a' ServiceRouter s' x' y') (rest_of (is_long n.0) _ h) (rest_of (is_long m.0) _ g) f in
    λ i. row.ServiceEdgeRouterPolicy (record { 0 = (e i).1 }) (same i).name (same i).semantic (same i).left (same i).right
same_form v (row.Terminator n s r o t c p) (row.Terminator m s' r' o' t' c' p') h g e f =
    let same = same_record kind.Terminator (record { service = s.0; router = r.0; instance = t; host = option_map (λ h. h.0) o; cost = c; precedence = p })
    (record { service = s'.0; router = r'.0; instance = t'; host = option_map (λ h. h.0) o'; cost = c'; precedence = p' }) (rest_of (is_long n.0) _ h) (rest_of (is_long m.0) _ g) f in
    let host : o ≡ o' = sym (host_wrapped o) ∙ (λ i. option_map (λ n. record { 0 = n }) (same i).host) ∙ host_wrapped o' in
    λ i. row.Terminator (record { 0 = (e i).1 }) (record { 0 = (same i).service }) (record { 0 = (same i).router }) (host i) (same i).instance (same i).cost (same i).precedence
same_form v (row.Circuit n a s t r ls) (row.Circuit m a' s' t' r' ls') h g e f =
    let same = same_record kind.Circuit (record { identity = a.0; service = s.0; terminator = t.0; ingress = r.0; links = ls })
    (record { identity = a'.0; service = s'.0; terminator = t'.0; ingress = r'.0; links = ls' }) (rest_of (is_long n.0) _ h) (rest_of (is_long m.0) _ g) f in
    λ i. row.Circuit (record { 0 = (e i).1 }) (record { 0 = (same i).identity }) (record { 0 = (same i).service }) (record { 0 = (same i).terminator }) (record { 0 = (same i).ingress }) (same i).links
same_form v (row.Dial a b c) (row.Dial a' b' c') h g e f =
    let same = same_count v (is_long a.0) (is_long b.0) (is_long a'.0) (is_long b'.0) c c' h g f in λ i. row.Dial (record { 0 = (e i).1 }) (record { 0 = (e i).2 }) (same i)
same_form v (row.Bind a b c) (row.Bind a' b' c') h g e f =
    let same = same_count v (is_long a.0) (is_long b.0) (is_long a'.0) (is_long b'.0) c c' h g f in λ i. row.Bind (record { 0 = (e i).1 }) (record { 0 = (e i).2 }) (same i)
same_form v (row.IdentityRouter a b c) (row.IdentityRouter a' b' c') h g e f =
    let same = same_count v (is_long a.0) (is_long b.0) (is_long a'.0) (is_long b'.0) c c' h g f in λ i. row.IdentityRouter (record { 0 = (e i).1 }) (record { 0 = (e i).2 }) (same i)
same_form v (row.ServiceRouter a b c) (row.ServiceRouter a' b' c') h g e f =
    let same = same_count v (is_long a.0) (is_long b.0) (is_long a'.0) (is_long b'.0) c c' h g f in λ i. row.ServiceRouter (record { 0 = (e i).1 }) (record { 0 = (e i).2 }) (same i)
same_form v (row.Intercept n i) (row.Intercept m j) h g e f =
    let same = same_intercept i j (rest_of (is_long n.0) _ (rest_of (is_two v) _ h)) (rest_of (is_long m.0) _ (rest_of (is_two v) _ g)) f in
    λ k. row.Intercept (record { 0 = (e k).1 }) (same k)
same_form v (row.Serial m) (row.Serial n) h g e f =
    let fits = ltb-true m (2 ^ 64) (rest_of (nat_lt 0 m) _ (rest_of (is_two v) _ h)) in
    let same = same_wide m n fits (ltb-true n (2 ^ 64) (rest_of (nat_lt 0 n) _ (rest_of (is_two v) _ g))) f in λ k. row.Serial (same k)
same_form v x y h g e f = absurd (apart (key_of x).0 (key_of y).0 refl (ap (λ (k : Key). k.0) e))

-- ---- rows that are put by the same changes

-- the key that a change names, and the value that it puts
abbrev op_key : Op → List ℕ
op_key (Put key value) = key
op_key (Delete key) = key

abbrev op_value : Op → List ℕ
op_value (Put key value) = value
op_value (Delete key) = []

pub same_row : (f : Format) (x y : Row) → is_row f x ≡ true → is_row f y ≡ true → put_of f x ≡ put_of f y → x ≡ y
same_row f x y h g e =
    same_form f x y h g (key_same (key_of x) (key_of y) (is_key-key_of f x h) (is_key-key_of f y g) (ap op_key e)) (ap op_value e)

pub same_rows : (f : Format) (xs ys : List Row) → list_all (is_row f) xs ≡ true → list_all (is_row f) ys ≡ true → map (put_of f) xs ≡ map (put_of f) ys → xs ≡ ys
same_rows f [] [] h g e = refl
same_rows f [] (y ∷ ys) h g e = absurd (cc)
same_rows f (x ∷ xs) [] h g e = absurd (cc)
same_rows f (x ∷ xs) (y ∷ ys) h g e =
    let firsts = first_same (put_of f x) (put_of f y) (map (put_of f) xs) (map (put_of f) ys) e in
    let hs = and_parts (is_row f x) (list_all (is_row f) xs) h in
    let gs = and_parts (is_row f y) (list_all (is_row f) ys) g in
    ap₂ (λ z zs. z ∷ zs) (same_row f x y hs.0 gs.0 firsts.0) (same_rows f xs ys hs.1 gs.1 firsts.1)
