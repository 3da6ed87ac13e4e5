-- How many bytes the rows of a valid state take in a batch at most, and so the batch between two.
use Rattle.std.proofs.Common.{◌≡◌, ℕ, suc, ◌+◌, ◌*◌, ◌^◌, ◌<◌, ◌≤◌, ◌==◌, ◌&&◌, ◌||◌, ◌⊎◌, inl, inr, eqb-true, nat_lt, nat_le, Bool, true, false, cond, List, [], ◌∷◌, ◌++◌, map, length, flat_map, Option, None, Some, refl, sym, ap, ◌∙◌, subst, arith, leb-true, length-append, le_trans, le_refl, bytes_eq, Ordering, Less, Equal, Greater}
use Rattle.std.specs.Prelude.{is_some}
use Rattle.std.specs.List.{list_all}
use Rattle.std.specs.Ordering.{match_ordering}
use Rattle.std.proofs.Math.Nat.{suc-mul, mul-le-mul_right}
use Rattle.std.proofs.lemmas.Nat.{mul-le}
use Rattle.std.proofs.lemmas.Bool.{and_parts, or_cases, false≢true}
use Rattle.std.proofs.lemmas.List.{length-map}
use Rattle.ctrl_model.specs.declared.formats.Format.TheVariants.{Two}
use Rattle.ctrl_model.specs.declared.addresses.Address.{Address}
use Rattle.ctrl_model.specs.declared.intercepts.Intercept.{Intercept}
use Rattle.ctrl_model.specs.declared.intercepts.PortRange.{PortRange}
use Rattle.ctrl_model.specs.declared.kinds.Kind.{Kind}
use Rattle.ctrl_model.specs.declared.kinds.Kind.TheVariants as kind
use Rattle.ctrl_model.specs.declared.kinds.Relation.{Relation}
use Rattle.ctrl_model.specs.declared.kinds.Relation.TheVariants as relation
use Rattle.ctrl_model.specs.declared.kinds.Side.{Side}
use Rattle.ctrl_model.specs.AddressForm.{is_address, same_address}
use Rattle.ctrl_model.specs.Grants.{count, left_numbers, right_numbers}
use Rattle.ctrl_model.specs.InterceptForm.{is_intercept, is_claim, is_port_range, same_ports}
use Rattle.ctrl_model.specs.Limits.{limit}
use Rattle.ctrl_model.specs.Membership.{Among}
use Rattle.ctrl_model.specs.NameForm.{is_name, is_instance}
use Rattle.ctrl_model.specs.Numbered.{at, is_present, numbers, Between}
use Rattle.ctrl_model.specs.State.{State, Policy, start}
use Rattle.ctrl_model.specs.Tables.{Record, table}
use Rattle.ctrl_model.specs.ValidState.{ValidState, is_valid_intercept, may_relate}
use Rattle.ctrl_model.proofs.AddressLaws.{text_short}
use Rattle.ctrl_model.proofs.Members.{list_all-among}
use Rattle.ctrl_model.proofs.NumberedLaws.{at-within, by_is_some}
use Rattle.row_codec.specs.Batches.{op_at, ops_of, op_bytes, batch_bytes, batch_between}
use Rattle.row_codec.specs.RowDifference.{Entry, put_if_other, with_old, difference}
use Rattle.row_codec.specs.RowForm.{are_listed, is_listed_side, is_host, is_short}
use Rattle.row_codec.specs.RowKeys.{RowTable, Key, kinds, kind_number, key_cmp, key_in, key_bytes, number_in_key, is_long, tables_of}
use Rattle.row_codec.specs.RowKeys.RowTable.{Next, Setting, Records, Counts, Intercepts, Serial}
use Rattle.row_codec.specs.RowValues.{long, short, address_value, port_range_value, intercept_value, listed, text, texts, side_bytes, sides_value, record_value, relation_byte, semantic_byte, flag, host_number, protocols_byte}
use Rattle.row_codec.specs.StateRows.{Rows, next_value, setting_value, count_value, serial_value, row_if_some, rows_in, rows_of}
use Rattle.row_laws.specs.FittingRecords.{fits}
use Rattle.row_laws.proofs.WrittenRecords.{record_fits}

-- ---- rows in a batch

-- Rows take in a batch no more bytes than this: of each its value, and before that its key and the lengths, 15 bytes at most.
abbrev size : Rows → ℕ
size [] = 0
size (x ∷ xs) = 15 + length x.1 + size xs

-- What entries take.
abbrev taken : List (Entry Key) → ℕ
taken es = length (batch_bytes (ops_of es))

key_most : (k : Key) → length (key_bytes k) ≤ 9
key_most k = by (k.0 == 1) (k.0 == 2) (nat_lt k.0 12) (nat_lt k.0 16) (k.0 == 16)
  where
    by : (u v w x y : Bool) → length (k.0 ∷ cond u (k.1 ∷ []) (cond v [] (cond w (number_in_key k.1) (cond x (number_in_key k.1 ++ number_in_key k.2) (cond y (number_in_key k.1) []))))) ≤ 9
    by true v w x y = omega arith
    by false true w x y = omega arith
    by false false true x y = omega arith
    by false false false true y = omega arith
    by false false false false true = omega arith
    by false false false false false = omega arith

put_most : (k : Key) (v : List ℕ) → length (op_bytes (op_at (key_bytes k) (Some v))) ≤ 15 + length v
put_most k v =
    let key = key_most k in
    let whole = length-append (key_bytes k) (long (length v) ++ v) in
    omega arith

delete_most : (k : Key) → length (op_bytes (op_at (key_bytes k) None)) ≤ 15
delete_most k = let key = key_most k in omega arith

taken_more : (e : Entry Key) (es : List (Entry Key)) → taken (e ∷ es) ≡ length (op_bytes (op_at (key_bytes e.0) e.1)) + taken es
taken_more e es = length-append (op_bytes (op_at (key_bytes e.0) e.1)) (batch_bytes (ops_of es))

put_more : (y : Key × List ℕ) (es : List (Entry Key)) (n : ℕ) → taken es ≤ n → taken ((y.0, Some y.1) ∷ es) ≤ 15 + length y.1 + n
put_more y es n few =
    let one = put_most y.0 y.1 in
    let both = taken_more (y.0, Some y.1) es in
    sum (taken ((y.0, Some y.1) ∷ es)) (length (op_bytes (op_at (key_bytes y.0) (Some y.1)))) (taken es) (length y.1) n both one few
  where
    sum : (a b c l n : ℕ) → a ≡ b + c → b ≤ 15 + l → c ≤ n → a ≤ 15 + l + n
    sum a b c l n e f g = omega (arith, e, f, g)

delete_more : (k : Key) (es : List (Entry Key)) (l n : ℕ) → taken es ≤ n → taken ((k, None) ∷ es) ≤ 15 + l + n
delete_more k es l n few =
    let one = delete_most k in
    let both = taken_more (k, None) es in
    sum (taken ((k, None) ∷ es)) (length (op_bytes (op_at (key_bytes k) None))) (taken es) both one few
  where
    sum : (a b c : ℕ) → a ≡ b + c → b ≤ 15 → c ≤ n → a ≤ 15 + l + n
    sum a b c e f g = omega (arith, e, f, g)

puts_most : (new : Rows) → taken (map (λ y. (y.0, Some y.1)) new) ≤ size new
puts_most [] = omega arith
puts_most (y ∷ ys) = put_more y (map (λ y. (y.0, Some y.1)) ys) (size ys) (puts_most ys)

old_most : (x : Key × List ℕ) (rest : Rows → List (Entry Key)) (n : ℕ) → ((ys : Rows) → taken (rest ys) ≤ n + size ys)
    → (ys : Rows) → taken (with_old key_cmp x rest ys) ≤ 15 + length x.1 + (n + size ys)
old_most x rest n each [] = delete_more x.0 (rest []) (length x.1) (n + 0) (each [])
old_most x rest n each (y ∷ ys) = by (key_cmp x.0 y.0) (old_most x rest n each ys)
  where
    more : (a b l m : ℕ) → a ≤ 15 + l + m → b ≡ 15 + l + m → a ≤ b
    more a b l m f e = omega (arith, e, f)

    skipped : (a n s l m : ℕ) → a ≤ n + s → a ≤ 15 + m + (n + (15 + l + s))
    skipped a n s l m f = omega (arith, f)

    put : (a n s l m : ℕ) → a ≤ 15 + l + (n + s) → a ≤ 15 + m + (n + (15 + l + s))
    put a n s l m f = omega (arith, f)

    kept : (a n s l m : ℕ) → a ≤ 15 + l + (15 + m + (n + s)) → a ≤ 15 + m + (n + (15 + l + s))
    kept a n s l m f = omega (arith, f)

    same : (c : Bool) → taken (cond c (rest ys) ((y.0, Some y.1) ∷ rest ys)) ≤ 15 + length x.1 + (n + (15 + length y.1 + size ys))
    same true = skipped (taken (rest ys)) n (size ys) (length y.1) (length x.1) (each ys)
    same false = put (taken ((y.0, Some y.1) ∷ rest ys)) n (size ys) (length y.1) (length x.1) (put_more y (rest ys) (n + size ys) (each ys))

    by : (c : Ordering) → taken (with_old key_cmp x rest ys) ≤ 15 + length x.1 + (n + size ys)
        → taken (match_ordering c ((x.0, None) ∷ rest (y ∷ ys)) (put_if_other x y (rest ys)) ((y.0, Some y.1) ∷ with_old key_cmp x rest ys))
        ≤ 15 + length x.1 + (n + (15 + length y.1 + size ys))
    by Less few = delete_more x.0 (rest (y ∷ ys)) (length x.1) (n + size (y ∷ ys)) (each (y ∷ ys))
    by Equal few = same (bytes_eq x.1 y.1)
    by Greater few =
        kept (taken ((y.0, Some y.1) ∷ with_old key_cmp x rest ys)) n (size ys) (length y.1) (length x.1)
        (put_more y (with_old key_cmp x rest ys) (15 + length x.1 + (n + size ys)) few)

-- A difference takes no more than all rows of both.
difference_most : (old new : Rows) → taken (difference key_cmp old new) ≤ size old + size new
difference_most [] new = none (taken (map (λ y. (y.0, Some y.1)) new)) (size new) (puts_most new)
  where
    none : (a n : ℕ) → a ≤ n → a ≤ 0 + n
    none a n f = omega (arith, f)
difference_most (x ∷ xs) new = regroup (length x.1) (size xs) (size new) (old_most x (difference key_cmp xs) (size xs) (λ ys. difference_most xs ys) new)
  where
    regroup : {a : ℕ} (l n m : ℕ) → a ≤ 15 + l + (n + m) → a ≤ 15 + l + n + m
    regroup l n m f = omega (arith, f)

-- ---- values

-- So many things, each of so many bytes at most.
each_most : {A : Type 0} (f : A → List ℕ) (p : A → Bool) (n : ℕ) → ((x : A) → p x ≡ true → length (f x) ≤ n) → (xs : List A) → list_all p xs ≡ true
    → length (flat_map f xs) ≤ length xs * n
each_most f p n few [] e = omega arith
each_most f p n few (x ∷ xs) e =
    let parts = and_parts (p x) (list_all p xs) e in
    sum (length (f x ++ flat_map f xs)) (length (f x)) (length (flat_map f xs)) (length xs * n) (suc (length xs) * n) (length-append (f x) (flat_map f xs)) (few x parts.0)
    (each_most f p n few xs parts.1) (suc-mul (length xs) n)
  where
    sum : (a b c m s : ℕ) → a ≡ b + c → b ≤ n → c ≤ m → s ≡ m + n → a ≤ s
    sum a b c m s e f g h = omega (arith, e, f, g, h)

both_most : (xs ys : List ℕ) (a b : ℕ) → length xs ≤ a → length ys ≤ b → length (xs ++ ys) ≤ a + b
both_most xs ys a b f g = let whole = length-append xs ys in omega (arith, whole, f, g)

name_most : (n : List ℕ) → is_name n ≡ true → length (text n) ≤ 65
name_most n e = suced (length n) (leb-true (length n) 64 (second (nat_le 1 (length n)) (nat_le (length n) 64) _ e))
  where
    suced : (l : ℕ) → l ≤ 64 → suc l ≤ 65
    suced l f = omega (arith, f)

    second : (a b c : Bool) → (a && b && c) ≡ true → b ≡ true
    second true true c h = refl
    second true false c h = absurd (false≢true h)
    second false b c h = absurd (false≢true h)

instance_most : (n : List ℕ) → is_instance n ≡ true → length (text n) ≤ 65
instance_most n e = by (or_cases (length n == 0) (is_name n) e)
  where
    none : (l : ℕ) → l ≡ 0 → suc l ≤ 65
    none l f = omega (arith, f)

    by : ((length n == 0) ≡ true) ⊎ (is_name n ≡ true) → length (text n) ≤ 65
    by (inl empty) = none (length n) (eqb-true (length n) 0 empty)
    by (inr named) = name_most n named

texts_most : (ns : List (List ℕ)) → are_listed ns ≡ true → length (texts ns) ≤ 4161
texts_most ns e =
    let parts = and_parts (nat_le (length ns) 64) (list_all is_name ns) e in
    sum (length (flat_map text ns)) (length ns * 65) (each_most text is_name 65 name_most ns parts.1) (mul-le-mul_right 65 (leb-true (length ns) 64 parts.0))
  where
    sum : (a b : ℕ) → a ≤ b → b ≤ 4160 → suc a ≤ 4161
    sum a b f g = omega (arith, f, g)

side_most : (side : Side) → is_listed_side side ≡ true → length (side_bytes side) ≤ 8323
side_most side e =
    let parts = and_parts (are_listed side.ids) (are_listed side.attributes) e in
    both_most (flag side.all ∷ []) (texts side.ids ++ texts side.attributes) 1 8322 (le_refl _)
    (both_most (texts side.ids) (texts side.attributes) 4161 4161 (texts_most side.ids parts.0) (texts_most side.attributes parts.1))

sides_most : (p : Policy) → (is_listed_side p.left && is_listed_side p.right) ≡ true → length (sides_value p) ≤ 16647
sides_most p e =
    let parts = and_parts (is_listed_side p.left) (is_listed_side p.right) e in
    both_most (semantic_byte p.semantic ∷ []) (side_bytes p.left ++ side_bytes p.right) 1 16646 (le_refl _)
    (both_most (side_bytes p.left) (side_bytes p.right) 8323 8323 (side_most p.left parts.0) (side_most p.right parts.1))

-- How many bytes the value of a record has at most: of a circuit those of its links, and of another one no more than those of a policy.
abbrev value_most : Kind → ℕ
value_most kind.Circuit = 1037
value_most kind.Identity = 16713
value_most kind.Service = 16713
value_most kind.Router = 16713
value_most kind.Link = 16713
value_most kind.ServicePolicy = 16713
value_most kind.EdgeRouterPolicy = 16713
value_most kind.ServiceEdgeRouterPolicy = 16713
value_most kind.Terminator = 16713
value_most kind.Attribute = 16713

policy_most : (p : Policy) → is_name p.name ≡ true → (is_listed_side p.left && is_listed_side p.right) ≡ true → length (text p.name ++ sides_value p) ≤ 16713
policy_most p named listed = le_trans (both_most (text p.name) (sides_value p) 65 16647 (name_most p.name named) (sides_most p listed)) (omega arith)

record_most : (k : Kind) (r : Record k) → fits k r ≡ true → length (record_value k r) ≤ value_most k
record_most kind.Identity e h =
    let parts = and_parts (is_name e.name) (are_listed e.attributes) h in
    le_trans (both_most (text e.name) (texts e.attributes) 65 4161 (name_most e.name parts.0) (texts_most e.attributes parts.1)) (omega arith)
record_most kind.Service e h =
    let parts = and_parts (is_name e.name) (are_listed e.attributes) h in
    le_trans (both_most (text e.name) (texts e.attributes) 65 4161 (name_most e.name parts.0) (texts_most e.attributes parts.1)) (omega arith)
record_most kind.Router r h =
    let parts = and_parts (is_name r.name) (are_listed r.attributes && is_short r.cost) h in
    let rest = and_parts (are_listed r.attributes) (is_short r.cost) parts.1 in
    le_trans (both_most (text r.name) (texts r.attributes ++ _) 65 4164 (name_most r.name parts.0) (both_most (texts r.attributes) _ 4161 3 (texts_most r.attributes rest.0) (le_refl _)))
    (omega arith)
record_most kind.Link l h =
    let parts = and_parts (is_name l.name) _ h in
    le_trans (both_most (text l.name) _ 65 15 (name_most l.name parts.0) (le_refl _)) (omega arith)
record_most kind.ServicePolicy p h =
    let parts = and_parts (is_name p.name) (may_relate kind.ServicePolicy p.relation && (is_listed_side p.left && is_listed_side p.right)) h in
    let rest = and_parts (may_relate kind.ServicePolicy p.relation) (is_listed_side p.left && is_listed_side p.right) parts.1 in
    both_most (text p.name) (relation_byte p.relation ∷ sides_value p) 65 16648 (name_most p.name parts.0)
    (both_most (relation_byte p.relation ∷ []) (sides_value p) 1 16647 (le_refl _) (sides_most p rest.1))
record_most kind.EdgeRouterPolicy p h =
    let parts = and_parts (is_name p.name) (may_relate kind.EdgeRouterPolicy p.relation && (is_listed_side p.left && is_listed_side p.right)) h in
    policy_most p parts.0 (and_parts (may_relate kind.EdgeRouterPolicy p.relation) (is_listed_side p.left && is_listed_side p.right) parts.1).1
record_most kind.ServiceEdgeRouterPolicy p h =
    let parts = and_parts (is_name p.name) (may_relate kind.ServiceEdgeRouterPolicy p.relation && (is_listed_side p.left && is_listed_side p.right)) h in
    policy_most p parts.0 (and_parts (may_relate kind.ServiceEdgeRouterPolicy p.relation) (is_listed_side p.left && is_listed_side p.right) parts.1).1
record_most kind.Terminator t h =
    let parts = and_parts (is_long t.service) (is_long t.router && (is_host t.host && (is_instance t.instance && is_short t.cost))) h in
    let hosted = and_parts (is_host t.host) (is_instance t.instance && is_short t.cost) (and_parts (is_long t.router) _ parts.1).1 in
    let named = and_parts (is_instance t.instance) (is_short t.cost) hosted.1 in
    le_trans (both_most (long t.service ++ (long t.router ++ long (host_number t.host))) (text t.instance ++ _) 12 68 (le_refl _)
    (both_most (text t.instance) _ 65 3 (instance_most t.instance named.0) (le_refl _))) (omega arith)
record_most kind.Circuit c h =
    let links = and_parts (is_long c.ingress) (nat_le (length c.links) 255 && list_all is_long c.links)
    (and_parts (is_long c.terminator) _ (and_parts (is_long c.service) _ (and_parts (is_long c.identity) _ h).1).1).1 in
    let both = and_parts (nat_le (length c.links) 255) (list_all is_long c.links) links.1 in
    both_most (long c.identity ++ (long c.service ++ (long c.terminator ++ (long c.ingress ++ length c.links ∷ [])))) (flat_map long c.links) 17 1020 (le_refl _)
    (le_trans (each_most long is_long 4 (λ n e. le_refl _) c.links both.1) (mul-le-mul_right 4 (leb-true (length c.links) 255 both.0)))
record_most kind.Attribute u h = omega arith

-- So many things that are claimed, and their count.
claim_most : {A : Type 0} (f : A → List ℕ) (form : A → Bool) (alike : A → A → Bool) (n : ℕ) → ((x : A) → form x ≡ true → length (f x) ≤ n) → (xs : List A) → is_claim form alike xs ≡ true
    → length (listed f xs) ≤ 1 + 32 * n
claim_most f form alike n few xs e =
    let some = and_parts (nat_le (length xs) 32) _ (and_parts (nat_le 1 (length xs)) _ e).1 in
    let all = le_trans (each_most f form n few xs (and_parts (list_all form xs) _ some.1).0) (mul-le-mul_right n (leb-true (length xs) 32 some.0)) in
    suced (length (flat_map f xs)) (32 * n) all
  where
    suced : (a b : ℕ) → a ≤ b → suc a ≤ 1 + b
    suced a b f = omega (arith, f)

intercept_most : (i : Intercept) → is_intercept i ≡ true → length (intercept_value i) ≤ 8323
intercept_most i e =
    let claims = and_parts (is_claim is_address same_address i.addresses) (is_claim is_port_range same_ports i.ports) (and_parts (i.tcp || i.udp) _ e).1 in
    both_most (protocols_byte i.tcp i.udp ∷ []) (listed address_value i.addresses ++ listed port_range_value i.ports) 1 8322 (le_refl _)
    (both_most (listed address_value i.addresses) (listed port_range_value i.ports) 8193 129
    (claim_most address_value is_address same_address 256 address_most i.addresses claims.0)
    (claim_most port_range_value is_port_range same_ports 4 (λ r f. le_refl _) i.ports claims.1))
  where
    address_most : (a : Address) → is_address a ≡ true → length (address_value a) ≤ 256
    address_most a f = let few = text_short a f in omega (arith, few)

-- ---- tables

size_append : (xs ys : Rows) → size (xs ++ ys) ≡ size xs + size ys
size_append [] ys = omega arith
size_append (x ∷ xs) ys = let rest = size_append xs ys in omega (arith, rest)

-- Rows that are found for each of some things, so many bytes at most for each.
flat_most : {A : Type 0} (f : A → Rows) (n : ℕ) → ((x : A) → size (f x) ≤ n) → (xs : List A) → size (flat_map f xs) ≤ length xs * n
flat_most f n few [] = omega arith
flat_most f n few (x ∷ xs) =
    sum (size (f x ++ flat_map f xs)) (size (f x)) (size (flat_map f xs)) (length xs * n) (suc (length xs) * n) (size_append (f x) (flat_map f xs)) (few x) (flat_most f n few xs)
    (suc-mul (length xs) n)
  where
    sum : (a b c m s : ℕ) → a ≡ b + c → b ≤ n → c ≤ m → s ≡ m + n → a ≤ s
    sum a b c m s e f g h = omega (arith, e, f, g, h)

-- Rows made of each of some things that pass a test.
mapped_most : {A : Type 0} (f : A → Key × List ℕ) (P : A → Type 0) (n : ℕ) → ((x : A) → P x → length (f x).1 ≤ n) → (xs : List A) → ((x : A) → Among x xs → P x)
    → size (map f xs) ≤ length xs * (15 + n)
mapped_most f P n few [] all = omega arith
mapped_most f P n few (x ∷ xs) all =
    sum (length (f x).1) (size (map f xs)) (length xs * (15 + n)) (suc (length xs) * (15 + n)) (few x (all x (inl refl))) (mapped_most f P n few xs (λ y m. all y (inr m)))
    (suc-mul (length xs) (15 + n))
  where
    sum : (b c m s : ℕ) → b ≤ n → c ≤ m → s ≡ m + (15 + n) → 15 + b + c ≤ s
    sum b c m s f g h = omega (arith, f, g, h)

-- One row that is there or not.
one_most : (key : Key) (b : Bool) (value : List ℕ) (n : ℕ) → length value ≤ n → size (row_if_some key (cond b (Some value) None)) ≤ 15 + n
one_most key true value n few = omega (arith, few)
one_most key false value n few = omega arith

-- A table has as many numbers as rows.
numbers_most : {R : Type 0} (rows : List (ℕ × R)) (few most : ℕ) → length rows ≤ few → few ≤ most → length (numbers rows) ≤ most
numbers_most rows few most f g = let same = length-map rows (λ x. x.0) in omega (arith, same, f, g)

left_most : (r : Relation) (s : State) → ValidState s → length (left_numbers r s) ≤ 2048
left_most relation.Dial s v = numbers_most s.identities.rows 2048 2048 (v.kinds kind.Identity).numbers.few (omega arith)
left_most relation.Bind s v = numbers_most s.identities.rows 2048 2048 (v.kinds kind.Identity).numbers.few (omega arith)
left_most relation.IdentityRouter s v = numbers_most s.identities.rows 2048 2048 (v.kinds kind.Identity).numbers.few (omega arith)
left_most relation.ServiceRouter s v = numbers_most s.services.rows 512 2048 (v.kinds kind.Service).numbers.few (omega arith)

right_most : (r : Relation) (s : State) → ValidState s → length (right_numbers r s) ≤ 512
right_most relation.Dial s v = numbers_most s.services.rows 512 512 (v.kinds kind.Service).numbers.few (omega arith)
right_most relation.Bind s v = numbers_most s.services.rows 512 512 (v.kinds kind.Service).numbers.few (omega arith)
right_most relation.IdentityRouter s v = numbers_most s.routers.rows 256 512 (v.kinds kind.Router).numbers.few (omega arith)
right_most relation.ServiceRouter s v = numbers_most s.routers.rows 256 512 (v.kinds kind.Router).numbers.few (omega arith)

counts_most : (r : Relation) (s : State) → ValidState s → size (rows_in Two (Counts r) s) ≤ 2048 * 8704
counts_most r s v =
    le_trans
    (flat_most (λ a. flat_map (λ b. row_if_some (key_in (Counts r) a b) (count_value Two (count r s a b))) (right_numbers r s)) 8704
    (λ a. le_trans
    (flat_most (λ b. row_if_some (key_in (Counts r) a b) (count_value Two (count r s a b))) 17
    (λ b. one_most (key_in (Counts r) a b) (nat_lt 0 (count r s a b)) (short (count r s a b)) 2 (le_refl _)) (right_numbers r s))
    (mul-le-mul_right 17 (right_most r s v)))
    (left_numbers r s))
    (mul-le-mul_right 8704 (left_most r s v))

-- ---- intercepts: no more than services

-- Of ascending numbers above another one each that is among these and it is among these.
present_behind : {A B : Type 0} (y : ℕ × B) (ys : List (ℕ × B)) (high low : ℕ) (xs : List (ℕ × A)) → Between low high xs → y.0 < low
    → list_all (λ x. is_present (y ∷ ys) x.0) xs ≡ true → list_all (λ x. is_present ys x.0) xs ≡ true
present_behind y ys high low [] between above e = refl
present_behind y ys high low (x ∷ xs) between above e =
    let parts = and_parts (is_present (y ∷ ys) x.0) (list_all (λ x. is_present (y ∷ ys) x.0) xs) e in
    let here : is_present ys x.0 ≡ true = by (y.0 == x.0) refl parts.0 in
    let rest = present_behind y ys high (x.0 + 1) xs between.2 (next y.0 low x.0 above between.0) parts.1 in
    ap (λ (b : Bool). b && list_all (λ x. is_present ys x.0) xs) here ∙ rest
  where
    next : (a low b : ℕ) → a < low → low ≤ b → a < b + 1
    next a low b f g = omega (arith, f, g)

    other : (a low b : ℕ) → a < low → low ≤ b → a ≡ b → ⊥
    other a low b f g e = omega (arith, f, g, e)

    by : (b : Bool) → (y.0 == x.0) ≡ b → is_some (cond b (Some y.1) (at ys x.0)) ≡ true → is_present ys x.0 ≡ true
    by true same f = absurd (other y.0 low x.0 above between.0 (eqb-true y.0 x.0 same))
    by false same f = f

-- What holds of the numbers behind the first one holds of all.
few_more : {A B : Type 0} (y : ℕ × B) (ys : List (ℕ × B)) (high most low : ℕ) (x : ℕ × A) (xs : List (ℕ × A)) → Between (y.0 + 1) most ys → Between low high (x ∷ xs)
    → list_all (λ x. is_present (y ∷ ys) x.0) (x ∷ xs) ≡ true
    → ((low : ℕ) (xs : List (ℕ × A)) → Between low high xs → list_all (λ x. is_present ys x.0) xs ≡ true → length xs ≤ length ys) → suc (length xs) ≤ suc (length ys)
few_more y ys high most low x xs their own e again = by (y.0 == x.0) refl
  where
    parts : (is_present (y ∷ ys) x.0 ≡ true) × (list_all (λ x. is_present (y ∷ ys) x.0) xs ≡ true)
    parts = and_parts (is_present (y ∷ ys) x.0) (list_all (λ x. is_present (y ∷ ys) x.0) xs) e

    next : (a b : ℕ) → a ≡ b → a < b + 1
    next a b f = omega (arith, f)

    both : (a b : ℕ) → a ≤ b → suc a ≤ suc b
    both a b f = omega (arith, f)

    one : (a b : ℕ) → a ≤ b → a ≤ suc b
    one a b f = omega (arith, f)

    under : (a b : ℕ) → a + 1 ≤ b → a < b
    under a b f = omega (arith, f)

    behind : is_some (at ys x.0) ≡ true → y.0 < x.0
    behind there = by_is_some (at ys x.0) there (λ r is. under y.0 x.0 (at-within most ys (y.0 + 1) x.0 r their is).0)

    by : (b : Bool) → (y.0 == x.0) ≡ b → suc (length xs) ≤ suc (length ys)
    by true same =
        both (length xs) (length ys)
        (again (x.0 + 1) xs own.2 (present_behind y ys high (x.0 + 1) xs own.2 (next y.0 x.0 (eqb-true y.0 x.0 same)) parts.1))
    by false same =
        let there : is_some (at ys x.0) ≡ true = subst (λ (b : Bool). is_some (cond b (Some y.1) (at ys x.0)) ≡ true) same parts.0 in
        one (suc (length xs)) (length ys)
        (again x.0 (x ∷ xs) (le_refl x.0, own.1, own.2) (present_behind y ys high x.0 (x ∷ xs) (le_refl x.0, own.1, own.2) (behind there) e))

few_present : {A B : Type 0} (high most : ℕ) (ys : List (ℕ × B)) (least low : ℕ) (xs : List (ℕ × A)) → Between least most ys → Between low high xs
    → list_all (λ x. is_present ys x.0) xs ≡ true → length xs ≤ length ys
few_present high most ys least low [] their own e = omega arith
few_present high most [] least low (x ∷ xs) their own e = absurd (false≢true e)
few_present high most (y ∷ ys) least low (x ∷ xs) their own e =
    few_more y ys high most low x xs their.2 own e (λ low xs own e. few_present high most ys (y.0 + 1) low xs their.2 own e)

few_intercepts : (s : State) → ValidState s → length s.intercepts ≤ 512
few_intercepts s v =
    le_trans (few_present s.services.next s.services.next s.services.rows 1 1 s.intercepts (v.kinds kind.Service).numbers.ordered v.ordered (present s.intercepts v.intercepts))
    (v.kinds kind.Service).numbers.few
  where
    present : (xs : List (ℕ × Intercept)) → list_all (is_valid_intercept s) xs ≡ true → list_all (λ x. is_present s.services.rows x.0) xs ≡ true
    present [] e = refl
    present (x ∷ xs) e =
        let parts = and_parts (is_valid_intercept s x) (list_all (is_valid_intercept s) xs) e in
        ap (λ (b : Bool). b && list_all (λ x. is_present s.services.rows x.0) xs) (and_parts (is_present s.services.rows x.0) (is_intercept x.1) parts.0).0 ∙ present xs parts.1

intercepts_most : (s : State) → ValidState s → size (rows_in Two Intercepts s) ≤ 512 * 8338
intercepts_most s v =
    le_trans
    (mapped_most (λ (x : ℕ × Intercept). (key_in Intercepts x.0 0, intercept_value x.1)) (λ x. is_valid_intercept s x ≡ true) 8323
    (λ x e. intercept_most x.1 (and_parts (is_present s.services.rows x.0) (is_intercept x.1) e).1) s.intercepts (λ x m. list_all-among (is_valid_intercept s) s.intercepts x v.intercepts m))
    (mul-le-mul_right 8338 (few_intercepts s v))

-- ---- all of it

-- How many bytes a table takes at most.
abbrev table_most : RowTable → ℕ
table_most Next = 171
table_most Setting = 19
table_most (Records k) = limit k * (15 + value_most k)
table_most (Counts r) = 2048 * 8704
table_most Intercepts = 512 * 8338
table_most Serial = 23

records_most : (k : Kind) (s : State) → ValidState s → size (rows_in Two (Records k) s) ≤ limit k * (15 + value_most k)
records_most k s v =
    le_trans
    (mapped_most (λ (x : ℕ × Record k). (key_in (Records k) x.0 0, record_value k x.1)) (λ x. fits k x.1 ≡ true) (value_most k) (λ x e. record_most k x.1 e) (table k s).rows
    (λ x m. record_fits s v k x m))
    (mul-le-mul_right (15 + value_most k) (v.kinds k).numbers.few)

setting_most : (b : Bool) (value : List ℕ) → length value ≤ 4 → size (row_if_some (key_in Setting 0 0) (cond b None (Some value))) ≤ 19
setting_most true value few = omega arith
setting_most false value few = omega (arith, few)

rows_most : (t : RowTable) (s : State) → ValidState s → size (rows_in Two t s) ≤ table_most t
rows_most Next s v =
    flat_most (λ k. row_if_some (key_in Next (kind_number k) 0) (next_value (table k s).next)) 19
    (λ k. one_most (key_in Next (kind_number k) 0) (nat_lt 1 (table k s).next) (long (table k s).next) 4 (le_refl _)) kinds
rows_most Setting s v = setting_most (s.least_router_cost == start.least_router_cost) (long s.least_router_cost) (le_refl _)
rows_most (Records k) s v = records_most k s v
rows_most (Counts r) s v = counts_most r s v
rows_most Intercepts s v = intercepts_most s v
rows_most Serial s v = one_most (key_in Serial 0 0) (nat_lt 0 s.serial) _ 8 (le_refl _)

abbrev total : List RowTable → ℕ
total [] = 0
total (t ∷ ts) = table_most t + total ts

tables_most : (ts : List RowTable) (s : State) → ValidState s → size (flat_map (λ t. rows_in Two t s) ts) ≤ total ts
tables_most [] s v = omega arith
tables_most (t ∷ ts) s v =
    sum (size (rows_in Two t s ++ flat_map (λ t. rows_in Two t s) ts)) (size (rows_in Two t s)) (size (flat_map (λ t. rows_in Two t s) ts)) (table_most t) (total ts)
    (size_append (rows_in Two t s) (flat_map (λ t. rows_in Two t s) ts)) (rows_most t s v) (tables_most ts s v)
  where
    sum : (a b c m n : ℕ) → a ≡ b + c → b ≤ m → c ≤ n → a ≤ m + n
    sum a b c m n e f g = omega (arith, e, f, g)

-- The rows of a valid state take at most 2^29 bytes.
state_most : (s : State) → ValidState s → size (rows_of Two s) ≤ 2 ^ 29
state_most s v = le_trans (tables_most (tables_of Two) s v) (leb-true (total (tables_of Two)) (2 ^ 29) refl)

-- The batch between two has at most 2^30.
pub batch_most : (s t : State) → ValidState s → ValidState t → length (batch_bytes (batch_between Two s t)) ≤ 2 ^ 30
batch_most s t v w =
    sum (taken (difference key_cmp (rows_of Two s) (rows_of Two t))) (size (rows_of Two s)) (size (rows_of Two t)) (difference_most (rows_of Two s) (rows_of Two t)) (state_most s v) (state_most t w)
  where
    sum : (a b c : ℕ) → a ≤ b + c → b ≤ 2 ^ 29 → c ≤ 2 ^ 29 → a ≤ 2 ^ 30
    sum a b c f g h = omega (arith, f, g, h)
