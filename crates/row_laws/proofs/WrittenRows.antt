-- The rows of a valid state: each stands under a key, spells a row's form, and is short enough for a batch.
use Rattle.std.proofs.Common.{◌≡◌, ℕ, suc, ◌+◌, ◌*◌, ◌^◌, ◌<◌, ◌≤◌, ◌==◌, ◌&&◌, ◌||◌, ◌⊎◌, inl, inr, eqb-true, nat_lt, nat_le, Bool, true, false, not, cond, List, [], ◌∷◌, ◌++◌, map, length, flat_map, Option, None, Some, option_map, refl, sym, ap, subst, arith, leb-true, lt-ltb, length-append, count_by, le_trans, lt_of_le_of_lt, le_refl}
use Rattle.std.proofs.lemmas.Bool.{and_parts, and_from, or_cases, false≢true, not_from_false}
use Rattle.std.proofs.lemmas.List.Sums.{count_by-le-length}
use Rattle.std.specs.List.{list_all, AllByRecursion}
use Rattle.ctrl_model.specs.declared.formats.Format.{Format}
use Rattle.ctrl_model.specs.declared.formats.Format.TheVariants.{One, Two}
use Rattle.ctrl_model.specs.declared.kinds.Kind.{Kind}
use Rattle.ctrl_model.specs.declared.kinds.Kind.TheVariants as kind
use Rattle.ctrl_model.specs.declared.kinds.Side.{Side}
use Rattle.ctrl_model.specs.declared.kinds.Relation.{Relation}
use Rattle.ctrl_model.specs.declared.kinds.Relation.TheVariants.{Dial, Bind, IdentityRouter, ServiceRouter}
use Rattle.ctrl_model.specs.declared.numbering.IdentityNo.{IdentityNo}
use Rattle.ctrl_model.specs.Membership.{Among}
use Rattle.ctrl_model.specs.NameForm.{is_name, is_instance}
use Rattle.ctrl_model.specs.State.{State, Entity, Policy, start}
use Rattle.ctrl_model.specs.Tables.{Record, table}
use Rattle.ctrl_model.specs.Grants.{count, joins, policies_for, on_both, left_entity, right_entity, left_numbers, right_numbers}
use Rattle.ctrl_model.specs.ValidState.{ValidState, is_valid_intercept, may_relate}
use Rattle.ctrl_model.specs.AddressForm.{is_address, same_address}
use Rattle.ctrl_model.specs.InterceptForm.{is_intercept, is_claim, is_port_range, same_ports}
use Rattle.ctrl_model.specs.Limits.{last_serial}
use Rattle.ctrl_model.specs.Numbered.{is_present}
use Rattle.ctrl_model.specs.declared.addresses.Address.{Address}
use Rattle.ctrl_model.specs.declared.intercepts.Intercept.{Intercept}
use Rattle.ctrl_model.specs.declared.intercepts.PortRange.{PortRange}
use Rattle.ctrl_model.proofs.AddressLaws.{text_short}
use Rattle.ctrl_model.proofs.Members.{Among-map, list_all-among}
use Rattle.row_laws.proofs.KeyOrders.{long_upto}
use Rattle.row_codec.specs.declared.rows.Row.{Row}
use Rattle.row_codec.specs.declared.rows.Row.TheVariants as row
use Rattle.row_codec.specs.RowKeys.{RowTable, Key, kinds, kind_number, key_in, key_bytes, table_number, tables_of, is_key, is_long}
use Rattle.row_codec.specs.RowKeys.RowTable.{Next, Setting, Records, Counts, Intercepts, Serial}
use Rattle.row_codec.specs.RowValues.{long, short, wide, count_bytes, address_value, port_range_value, intercept_value, text, texts, side_bytes, sides_value, record_value, host_number, precedence_byte, router_marks, flag, relation_byte, semantic_byte}
use Rattle.row_codec.specs.RowForm.{SpellsRow, are_listed, is_listed_side, is_count, is_host, is_short, is_wide}
use Rattle.row_codec.specs.StateRows.{next_value, count_value, row_if_some, rows_in, rows_of}
use Rattle.row_laws.proofs.RisingRows.{All-flat_map, All-more, All-among, All-tested}
use Rattle.row_laws.proofs.RisingStates.{IsNumbered, below_sixteen}
use Rattle.row_laws.proofs.SpelledKeys.{AreKeys}
use Rattle.row_laws.proofs.TableRows.{has_number}
use Rattle.row_laws.proofs.TouchedKeys.{pair_key}
use Rattle.row_laws.specs.FittingRecords.{fits}
use Rattle.row_laws.specs.OrderedIntercepts.{AscendIn}
use Rattle.row_laws.proofs.WrittenRecords.{listed_fits, present_fits, record_fits}

-- a row under a key, of a row's form in a format, with a value that is short enough
pub record Written (format : Format) (x : Key × List ℕ) : Type 0 where
  pub under_key : is_key x.0 ≡ true
  pub form : Row
  pub spells : SpellsRow format (key_bytes x.0) x.1 form
  pub short_value : length x.1 < 2 ^ 32

pub IsNumbered-valid : (s : State) → ValidState s → IsNumbered s
IsNumbered-valid s v k = (v.kinds k).numbers.ordered

pub AscendIn-valid : (format : Format) (s : State) → ValidState s → AscendIn format s
AscendIn-valid One s v = tt
AscendIn-valid Two s v = v.ordered

-- ---- how long values are

append_le : (xs ys : List ℕ) (a b : ℕ) → length xs ≤ a → length ys ≤ b → length (xs ++ ys) ≤ a + b
append_le xs ys a b h k = rw (length-append xs ys) (omega arith)

name_le : (n : List ℕ) → is_name n ≡ true → length n ≤ 64
name_le n e = leb-true (length n) 64 (middle (nat_le 1 (length n)) (nat_le (length n) 64) _ e)
  where
    middle : (a b c : Bool) → (a && b && c) ≡ true → b ≡ true
    middle true true c h = refl
    middle true false c h = absurd (false≢true h)
    middle false b c h = absurd (false≢true h)

text_le : (n : List ℕ) → is_name n ≡ true → length (text n) ≤ 65
text_le n e = let l = name_le n e in omega arith

instance_le : (n : List ℕ) → is_instance n ≡ true → length (text n) ≤ 65
instance_le n e = by (or_cases (length n == 0) (is_name n) e)
  where
    by : ((length n == 0) ≡ true) ⊎ (is_name n ≡ true) → length (text n) ≤ 65
    by (inl none) = let empty = eqb-true (length n) 0 none in omega arith
    by (inr named) = text_le n named

each_text_le : (ns : List (List ℕ)) → list_all is_name ns ≡ true → length (flat_map text ns) ≤ length ns * 65
each_text_le [] e = omega arith
each_text_le (n ∷ ns) e =
    let parts = and_parts (is_name n) (list_all is_name ns) e in
    more (length (text n ++ flat_map text ns)) (length (flat_map text ns)) (length ns)
    (append_le (text n) (flat_map text ns) 65 (length (flat_map text ns)) (text_le n parts.0) (le_refl _)) (each_text_le ns parts.1)
  where
    more : (a b c : ℕ) → a ≤ 65 + b → b ≤ c * 65 → a ≤ suc c * 65
    more a b c h k = omega arith

texts_le : (ns : List (List ℕ)) → are_listed ns ≡ true → length (texts ns) ≤ 4161
texts_le ns e =
    let parts = and_parts (nat_le (length ns) 64) (list_all is_name ns) e in
    sum (length (flat_map text ns)) (length ns) (each_text_le ns parts.1) (leb-true (length ns) 64 parts.0)
  where
    sum : (a c : ℕ) → a ≤ c * 65 → c ≤ 64 → suc a ≤ 4161
    sum a c h k = omega arith

side_le : (side : Side) → is_listed_side side ≡ true → length (side_bytes side) ≤ 1 + (4161 + 4161)
side_le side e =
    let parts = and_parts (are_listed side.ids) (are_listed side.attributes) e in
    append_le (flag side.all ∷ []) (texts side.ids ++ texts side.attributes) 1 8322 (le_refl _)
    (append_le (texts side.ids) (texts side.attributes) 4161 4161 (texts_le side.ids parts.0) (texts_le side.attributes parts.1))

sides_le : (p : Policy) → (is_listed_side p.left && is_listed_side p.right) ≡ true → length (sides_value p) ≤ 1 + (8323 + 8323)
sides_le p e =
    let parts = and_parts (is_listed_side p.left) (is_listed_side p.right) e in
    append_le (semantic_byte p.semantic ∷ []) (side_bytes p.left ++ side_bytes p.right) 1 16646 (le_refl _)
    (append_le (side_bytes p.left) (side_bytes p.right) 8323 8323 (side_le p.left parts.0) (side_le p.right parts.1))

longs_le : (ns : List ℕ) → length (flat_map long ns) ≤ length ns * 4
longs_le [] = omega arith
longs_le (n ∷ ns) = more (length (flat_map long ns)) (length ns) (longs_le ns)
  where
    more : (a c : ℕ) → a ≤ c * 4 → suc (suc (suc (suc a))) ≤ suc c * 4
    more a c h = omega arith

-- the value of a record that fits is short enough
pub short_record : (k : Kind) (r : Record k) → fits k r ≡ true → length (record_value k r) < 2 ^ 32
short_record kind.Identity e h =
    let parts = and_parts (is_name e.name) (are_listed e.attributes) h in
    let size = append_le (text e.name) (texts e.attributes) 65 4161 (text_le e.name parts.0) (texts_le e.attributes parts.1) in lt_of_le_of_lt size (omega arith)
short_record kind.Service e h =
    let parts = and_parts (is_name e.name) (are_listed e.attributes) h in
    let size = append_le (text e.name) (texts e.attributes) 65 4161 (text_le e.name parts.0) (texts_le e.attributes parts.1) in lt_of_le_of_lt size (omega arith)
short_record kind.Router r h =
    let parts = and_parts (is_name r.name) (are_listed r.attributes && is_short r.cost) h in
    let rest = and_parts (are_listed r.attributes) (is_short r.cost) parts.1 in
    let size = append_le (text r.name) (texts r.attributes ++ (short r.cost ++ router_marks r.through r.connected ∷ [])) 65 4164 (text_le r.name parts.0)
    (append_le (texts r.attributes) (short r.cost ++ router_marks r.through r.connected ∷ []) 4161 3 (texts_le r.attributes rest.0) (le_refl _)) in
    lt_of_le_of_lt size (omega arith)
short_record kind.Link l h =
    let parts = and_parts (is_name l.name) _ h in
    let size = append_le (text l.name) (long l.a ++ (long l.b ++ (short l.cost ++ (short l.latency_a ++ (short l.latency_b ++ flag l.up ∷ []))))) 65 15 (text_le l.name parts.0) (le_refl _) in
    lt_of_le_of_lt size (omega arith)
short_record kind.ServicePolicy p h =
    let parts = and_parts (is_name p.name) (may_relate kind.ServicePolicy p.relation && (is_listed_side p.left && is_listed_side p.right)) h in
    let rest = and_parts (may_relate kind.ServicePolicy p.relation) (is_listed_side p.left && is_listed_side p.right) parts.1 in
    let size = append_le (text p.name) (relation_byte p.relation ∷ sides_value p) 65 16648 (text_le p.name parts.0)
    (append_le (relation_byte p.relation ∷ []) (sides_value p) 1 16647 (le_refl _) (sides_le p rest.1)) in lt_of_le_of_lt size (omega arith)
short_record kind.EdgeRouterPolicy p h =
    let parts = and_parts (is_name p.name) (may_relate kind.EdgeRouterPolicy p.relation && (is_listed_side p.left && is_listed_side p.right)) h in
    let rest = and_parts (may_relate kind.EdgeRouterPolicy p.relation) (is_listed_side p.left && is_listed_side p.right) parts.1 in
    let size = append_le (text p.name) (sides_value p) 65 16647 (text_le p.name parts.0) (sides_le p rest.1) in lt_of_le_of_lt size (omega arith)
short_record kind.ServiceEdgeRouterPolicy p h =
    let parts = and_parts (is_name p.name) (may_relate kind.ServiceEdgeRouterPolicy p.relation && (is_listed_side p.left && is_listed_side p.right)) h in
    let rest = and_parts (may_relate kind.ServiceEdgeRouterPolicy p.relation) (is_listed_side p.left && is_listed_side p.right) parts.1 in
    let size = append_le (text p.name) (sides_value p) 65 16647 (text_le p.name parts.0) (sides_le p rest.1) in lt_of_le_of_lt size (omega arith)
short_record kind.Terminator t h =
    let parts = and_parts (is_long t.service) (is_long t.router && (is_host t.host && (is_instance t.instance && is_short t.cost))) h in
    let hosted = and_parts (is_host t.host) (is_instance t.instance && is_short t.cost) (and_parts (is_long t.router) _ parts.1).1 in
    let named = and_parts (is_instance t.instance) (is_short t.cost) hosted.1 in
    let size = append_le (long t.service ++ (long t.router ++ long (host_number t.host))) (text t.instance ++ (short t.cost ++ precedence_byte t.precedence ∷ [])) 12 68 (le_refl _)
    (append_le (text t.instance) (short t.cost ++ precedence_byte t.precedence ∷ []) 65 3 (instance_le t.instance named.0) (le_refl _)) in
    lt_of_le_of_lt size (omega arith)
short_record kind.Circuit c h =
    let links = and_parts (is_long c.ingress) (nat_le (length c.links) 255 && list_all is_long c.links)
    (and_parts (is_long c.terminator) _ (and_parts (is_long c.service) _ (and_parts (is_long c.identity) _ h).1).1).1 in
    let few = leb-true (length c.links) 255 (and_parts (nat_le (length c.links) 255) (list_all is_long c.links) links.1).0 in
    let size = append_le (long c.identity ++ (long c.service ++ (long c.terminator ++ (long c.ingress ++ length c.links ∷ [])))) (flat_map long c.links) 17 1020 (le_refl _)
    (le_trans (longs_le c.links) (times (length c.links) few)) in
    lt_of_le_of_lt size (omega arith)
  where
    times : (n : ℕ) → n ≤ 255 → n * 4 ≤ 1020
    times n h = omega arith
short_record kind.Attribute u h = omega arith

-- the value of an intercept is short enough
each_address_le : (xs : List Address) → list_all is_address xs ≡ true → length (flat_map address_value xs) ≤ length xs * 256
each_address_le [] e = omega arith
each_address_le (a ∷ xs) e =
    let parts = and_parts (is_address a) (list_all is_address xs) e in
    let short = text_short a parts.0 in
    let here : length (address_value a) ≤ 256 = omega (arith, short) in
    more (length (address_value a ++ flat_map address_value xs)) (length (flat_map address_value xs)) (length xs)
    (append_le (address_value a) (flat_map address_value xs) 256 (length (flat_map address_value xs)) here (le_refl _)) (each_address_le xs parts.1)
  where
    more : (a b c : ℕ) → a ≤ 256 + b → b ≤ c * 256 → a ≤ suc c * 256
    more a b c h k = omega arith

each_range_le : (xs : List PortRange) → length (flat_map port_range_value xs) ≤ length xs * 4
each_range_le [] = omega arith
each_range_le (r ∷ xs) = more (length (flat_map port_range_value xs)) (length xs) (each_range_le xs)
  where
    more : (a c : ℕ) → a ≤ c * 4 → suc (suc (suc (suc a))) ≤ suc c * 4
    more a c h = omega arith

pub short_intercept : (i : Intercept) → is_intercept i ≡ true → length (intercept_value i) < 2 ^ 32
short_intercept i e =
    let claims = and_parts (is_claim is_address same_address i.addresses) (is_claim is_port_range same_ports i.ports) (and_parts (i.tcp || i.udp) _ e).1 in
    let some = and_parts (nat_le (length i.addresses) 32) _ (and_parts (nat_le 1 (length i.addresses)) _ claims.0).1 in
    let few = leb-true (length i.addresses) 32 some.0 in
    let short = each_address_le i.addresses (and_parts (list_all is_address i.addresses) _ some.1).0 in
    let few_ports = leb-true (length i.ports) 32 (and_parts (nat_le (length i.ports) 32) _ (and_parts (nat_le 1 (length i.ports)) _ claims.1).1).0 in
    let ports = each_range_le i.ports in
    let all = append_le (length i.addresses ∷ flat_map address_value i.addresses) (length i.ports ∷ flat_map port_range_value i.ports) 8193 129 (omega (arith, few, short)) (omega (arith, few_ports, ports)) in
    omega (arith, all)

-- ---- the row of a record, of a count, of a next number

hosts_back : (o : Option ℕ) → option_map (λ (h : IdentityNo). h.0) (option_map (λ n. record { 0 = n }) o) ≡ o
hosts_back None = refl
hosts_back (Some n) = refl

fit_number : (n : ℕ) → is_long n ≡ true → (is_long n && true) ≡ true
fit_number n h = and_from (is_long n) true h refl

-- what holds without the third
without_third : (l m r x : Bool) → l ≡ true → (m && (r && x)) ≡ true → (l && (m && x)) ≡ true
without_third l m r x h f = let parts = and_parts m (r && x) f in and_from l _ h (and_from m x parts.0 (and_parts r x parts.1).1)

-- a record as the row that it spells
written_by : (format : Format) (k : Kind) (n : ℕ) (r : Record k) (x : Row) → is_key (kind_number k + 2, n, 0) ≡ true → fits k r ≡ true → SpellsRow format (key_bytes (kind_number k + 2, n, 0)) (record_value k r) x
    → Written format ((kind_number k + 2, n, 0), record_value k r)
written_by format k n r x key f spells = record { under_key = key; form = x; spells = spells; short_value = short_record k r f }

pub written_record : (format : Format) (k : Kind) (n : ℕ) (r : Record k) → has_number format (Records k) ≡ true → is_long n ≡ true → fits k r ≡ true → Written format ((kind_number k + 2, n, 0), record_value k r)
written_record format kind.Identity n e has h f =
    written_by format kind.Identity n e (row.Identity (record { 0 = n }) e.name e.attributes) (fit_number n h) f (record { form = and_from (is_long n) _ h f; key_is = refl; value_is = refl })
written_record format kind.Service n e has h f =
    written_by format kind.Service n e (row.Service (record { 0 = n }) e.name e.attributes) (fit_number n h) f (record { form = and_from (is_long n) _ h f; key_is = refl; value_is = refl })
written_record format kind.Router n r has h f =
    written_by format kind.Router n r (row.Router (record { 0 = n }) r.name r.attributes r.cost r.through r.connected) (fit_number n h) f (record { form = and_from (is_long n) _ h f; key_is = refl; value_is = refl })
written_record format kind.Link n l has h f =
    written_by format kind.Link n l (row.Link (record { 0 = n }) l.name (record { 0 = l.a }) (record { 0 = l.b }) l.cost l.latency_a l.latency_b l.up) (fit_number n h) f
    (record { form = and_from (is_long n) _ h f; key_is = refl; value_is = refl })
written_record format kind.ServicePolicy n p has h f =
    written_by format kind.ServicePolicy n p (row.ServicePolicy (record { 0 = n }) p.name p.relation p.semantic p.left p.right) (fit_number n h) f (record { form = and_from (is_long n) _ h f; key_is = refl; value_is = refl })
written_record format kind.EdgeRouterPolicy n p has h f =
    written_by format kind.EdgeRouterPolicy n p (row.EdgeRouterPolicy (record { 0 = n }) p.name p.semantic p.left p.right) (fit_number n h) f
    (record { form = without_third (is_long n) (is_name p.name) (may_relate kind.EdgeRouterPolicy p.relation) _ h f; key_is = refl; value_is = refl })
written_record format kind.ServiceEdgeRouterPolicy n p has h f =
    written_by format kind.ServiceEdgeRouterPolicy n p (row.ServiceEdgeRouterPolicy (record { 0 = n }) p.name p.semantic p.left p.right) (fit_number n h) f
    (record { form = without_third (is_long n) (is_name p.name) (may_relate kind.ServiceEdgeRouterPolicy p.relation) _ h f; key_is = refl; value_is = refl })
written_record format kind.Terminator n t has h f =
    let hosts = hosts_back t.host in
    written_by format kind.Terminator n t
    (row.Terminator (record { 0 = n }) (record { 0 = t.service }) (record { 0 = t.router }) (option_map (λ n. record { 0 = n }) t.host) t.instance t.cost t.precedence) (fit_number n h) f
    (record {
      form = and_from (is_long n) _ h
          (subst (λ o. (is_long t.service && (is_long t.router && (is_host o && (is_instance t.instance && is_short t.cost)))) ≡ true) (sym hosts) f);
      key_is = refl;
      value_is = ap (λ o. record_value kind.Terminator (record t { host = o })) (sym hosts);
    })
written_record format kind.Circuit n c has h f =
    written_by format kind.Circuit n c (row.Circuit (record { 0 = n }) (record { 0 = c.identity }) (record { 0 = c.service }) (record { 0 = c.terminator }) (record { 0 = c.ingress }) c.links) (fit_number n h) f
    (record { form = and_from (is_long n) _ h f; key_is = refl; value_is = refl })
written_record format kind.Attribute n u has h f = absurd (false≢true has)

-- the row of a count, which spells it
abbrev count_row : Relation → ℕ → ℕ → ℕ → Row
count_row Dial a b c = row.Dial (record { 0 = a }) (record { 0 = b }) c
count_row Bind a b c = row.Bind (record { 0 = a }) (record { 0 = b }) c
count_row IdentityRouter a b c = row.IdentityRouter (record { 0 = a }) (record { 0 = b }) c
count_row ServiceRouter a b c = row.ServiceRouter (record { 0 = a }) (record { 0 = b }) c

count_spells : (format : Format) (r : Relation) (a b c : ℕ) → (is_long a && (is_long b && is_count format c)) ≡ true
    → SpellsRow format (key_bytes (table_number (Counts r), a, b)) (count_bytes format c) (count_row r a b c)
count_spells format Dial a b c e = record { form = e; key_is = refl; value_is = refl }
count_spells format Bind a b c e = record { form = e; key_is = refl; value_is = refl }
count_spells format IdentityRouter a b c e = record { form = e; key_is = refl; value_is = refl }
count_spells format ServiceRouter a b c e = record { form = e; key_is = refl; value_is = refl }

short_count : (format : Format) (c : ℕ) → length (count_bytes format c) < 2 ^ 32
short_count One c = omega arith
short_count Two c = omega arith

written_count : (format : Format) (r : Relation) (a b c : ℕ) → is_long a ≡ true → is_long b ≡ true → is_count format c ≡ true
    → Written format ((table_number (Counts r), a, b), count_bytes format c)
written_count format r a b c h k p = record {
  under_key = pair_key r (a, b) (and_from (is_long a) (is_long b) h k);
  form = count_row r a b c;
  spells = count_spells format r a b c (and_from (is_long a) _ h (and_from (is_long b) _ k p));
  short_value = short_count format c;
}

written_next : (format : Format) (n next : ℕ) → (nat_le 1 n && nat_le n 9) ≡ true → nat_lt 1 next ≡ true → is_long next ≡ true → Written format ((1, n, 0), long next)
written_next format n next e h k =
    let parts = and_parts (nat_le 1 n) (nat_le n 9) e in
    record {
      under_key = and_from (nat_le 1 n) _ parts.0 (and_from (nat_le n 9) true parts.1 refl);
      form = row.Next n next;
      spells = record { form = and_from (nat_le 1 n && nat_le n 9) _ e (and_from (nat_lt 1 next) (is_long next) h k); key_is = refl; value_is = refl };
      short_value = omega arith;
    }

written_setting : (format : Format) (cost : ℕ) → (cost == start.least_router_cost) ≡ false → is_long cost ≡ true → Written format ((2, 0, 0), long cost)
written_setting format cost e h = record {
  under_key = refl;
  form = row.Setting cost;
  spells = record { form = and_from (not (cost == start.least_router_cost)) (is_long cost) (not_from_false (cost == start.least_router_cost) e) h; key_is = refl; value_is = refl };
  short_value = omega arith;
}

-- ---- all rows of a valid state

All-cond : (P : Key × List ℕ → Type 0) (key : Key) (b : Bool) (v : List ℕ) → (b ≡ true → P (key, v)) → AllByRecursion P (row_if_some key (cond b (Some v) None))
All-cond P key true v h = (h refl, tt)
All-cond P key false v h = tt

All-uncond : (P : Key × List ℕ → Type 0) (key : Key) (b : Bool) (v : List ℕ) → (b ≡ false → P (key, v)) → AllByRecursion P (row_if_some key (cond b None (Some v)))
All-uncond P key true v h = tt
All-uncond P key false v h = (h refl, tt)

pub left_fits : (r : Relation) (s : State) → ValidState s → (a : ℕ) → Among a (left_numbers r s) → is_long a ≡ true
left_fits Dial s v = listed_fits (v.kinds kind.Identity).numbers
left_fits Bind s v = listed_fits (v.kinds kind.Identity).numbers
left_fits IdentityRouter s v = listed_fits (v.kinds kind.Identity).numbers
left_fits ServiceRouter s v = listed_fits (v.kinds kind.Service).numbers

pub right_fits : (r : Relation) (s : State) → ValidState s → (a : ℕ) → Among a (right_numbers r s) → is_long a ≡ true
right_fits Dial s v = listed_fits (v.kinds kind.Service).numbers
right_fits Bind s v = listed_fits (v.kinds kind.Service).numbers
right_fits IdentityRouter s v = listed_fits (v.kinds kind.Router).numbers
right_fits ServiceRouter s v = listed_fits (v.kinds kind.Router).numbers

few_policies : (r : Relation) (s : State) → ValidState s → length (policies_for r s) ≤ 512
few_policies Dial s v = (v.kinds kind.ServicePolicy).numbers.few
few_policies Bind s v = (v.kinds kind.ServicePolicy).numbers.few
few_policies IdentityRouter s v = le_trans (v.kinds kind.EdgeRouterPolicy).numbers.few (omega arith)
few_policies ServiceRouter s v = le_trans (v.kinds kind.ServiceEdgeRouterPolicy).numbers.few (omega arith)

-- a count is at most how many policies its kind may have
pub count_most : (r : Relation) (s : State) → ValidState s → (a b : ℕ) → count r s a b ≤ 512
count_most r s v a b = by (left_entity r s a) (right_entity r s b)
  where
    by : (o p : Option Entity) → on_both o p (λ e f. count_by (λ row. joins r row.1 e f) (policies_for r s)) ≤ 512
    by None p = omega arith
    by (Some e) None = omega arith
    by (Some e) (Some f) = le_trans (count_by-le-length (λ (row : ℕ × Policy). joins r row.1 e f) (policies_for r s)) (few_policies r s v)

-- so one above 0 has a row in either format
pub count_fits : (format : Format) (r : Relation) (s : State) → ValidState s → (a b : ℕ) → nat_lt 0 (count r s a b) ≡ true → is_count format (count r s a b) ≡ true
count_fits One r s v a b above =
    let most = count_most r s v a b in
    and_from (nat_lt 0 (count r s a b)) (is_long (count r s a b)) above (lt-ltb (count r s a b) (2 ^ 32) (omega (arith, most)))
count_fits Two r s v a b above =
    let most = count_most r s v a b in
    and_from (nat_lt 0 (count r s a b)) (is_short (count r s a b)) above (lt-ltb (count r s a b) (2 ^ 16) (omega (arith, most)))

written_records : (format : Format) (k : Kind) → has_number format (Records k) ≡ true → (s : State) → ValidState s → (rows : List (ℕ × Record k)) → ((x : ℕ × Record k) → Among x rows → Among x (table k s).rows)
    → AllByRecursion (Written format) (map (λ x. ((kind_number k + 2, x.0, 0), record_value k x.1)) rows)
written_records format k has s v [] inside = tt
written_records format k has s v (x ∷ xs) inside =
    let here = inside x (inl refl) in (
      written_record format k x.0 x.1 has (listed_fits (v.kinds k).numbers x.0 (Among-map (λ (y : ℕ × Record k). y.0) (table k s).rows x here)) (record_fits s v k x here),
      written_records format k has s v xs (λ y m. inside y (inr m)),
    )

written_counts : (format : Format) (r : Relation) (s : State) → ValidState s → AllByRecursion (Written format) (rows_in format (Counts r) s)
written_counts format r s v =
    All-flat_map (Written format) (λ a. flat_map (λ b. row_if_some (key_in (Counts r) a b) (count_value format (count r s a b))) (right_numbers r s)) (left_numbers r s)
    (All-among (λ a. AllByRecursion (Written format) (flat_map (λ b. row_if_some (key_in (Counts r) a b) (count_value format (count r s a b))) (right_numbers r s))) (left_numbers r s) (λ a m.
    All-flat_map (Written format) (λ b. row_if_some (key_in (Counts r) a b) (count_value format (count r s a b))) (right_numbers r s)
    (All-among (λ b. AllByRecursion (Written format) (row_if_some (key_in (Counts r) a b) (count_value format (count r s a b)))) (right_numbers r s) (λ b l.
    All-cond (Written format) (key_in (Counts r) a b) (nat_lt 0 (count r s a b)) (count_bytes format (count r s a b)) (λ above.
    written_count format r a b (count r s a b) (left_fits r s v a m) (right_fits r s v b l) (count_fits format r s v a b above))))))

-- an intercept and the serial, which the second format alone has
written_intercept : (n : ℕ) (i : Intercept) → is_long n ≡ true → is_intercept i ≡ true → Written Two ((16, n, 0), intercept_value i)
written_intercept n i h f = record {
  under_key = fit_number n h;
  form = row.Intercept (record { 0 = n }) i;
  spells = record { form = and_from (is_long n) (is_intercept i) h f; key_is = refl; value_is = refl };
  short_value = short_intercept i f;
}

written_intercepts : (s : State) → ValidState s → (rows : List (ℕ × Intercept)) → ((x : ℕ × Intercept) → Among x rows → Among x s.intercepts)
    → AllByRecursion (Written Two) (map (λ x. ((16, x.0, 0), intercept_value x.1)) rows)
written_intercepts s v [] inside = tt
written_intercepts s v (x ∷ xs) inside =
    let valid = and_parts (is_present s.services.rows x.0) (is_intercept x.1) (list_all-among (is_valid_intercept s) s.intercepts x v.intercepts (inside x (inl refl))) in (
      written_intercept x.0 x.1 (present_fits (v.kinds kind.Service).numbers x.0 valid.0).1 valid.1,
      written_intercepts s v xs (λ y m. inside y (inr m)),
    )

written_serial : (n : ℕ) → nat_lt 0 n ≡ true → n ≤ last_serial → Written Two ((17, 0, 0), wide n)
written_serial n above last = record {
  under_key = refl;
  form = row.Serial n;
  spells = record { form = and_from (nat_lt 0 n) (is_wide n) above (lt-ltb n (2 ^ 64) (omega (arith, last))); key_is = refl; value_is = refl };
  short_value = omega arith;
}

written_table : (format : Format) (t : RowTable) (s : State) → ValidState s → Among t (tables_of format) → AllByRecursion (Written format) (rows_in format t s)
written_table format Next s v in_format =
    All-flat_map (Written format) (λ k. row_if_some (1, kind_number k, 0) (next_value (table k s).next)) kinds
    (All-more (λ k. (nat_le 1 (kind_number k) && nat_le (kind_number k) 9) ≡ true) (λ k. AllByRecursion (Written format) (row_if_some (1, kind_number k, 0) (next_value (table k s).next)))
    (λ k e. All-cond (Written format) (1, kind_number k, 0) (nat_lt 1 (table k s).next) (long (table k s).next)
    (λ above. written_next format (kind_number k) (table k s).next e above (long_upto (table k s).next (v.kinds k).numbers.last)))
    kinds (All-tested (λ k. nat_le 1 (kind_number k) && nat_le (kind_number k) 9) kinds refl))
written_table format Setting s v in_format =
    let most = leb-true s.least_router_cost 65535 (and_parts (nat_le 1 s.least_router_cost) (nat_le s.least_router_cost 65535) v.setting).1 in
    All-uncond (Written format) (2, 0, 0) (s.least_router_cost == start.least_router_cost) (long s.least_router_cost)
    (λ e. written_setting format s.least_router_cost e (long_upto s.least_router_cost (le_trans most (omega arith))))
written_table format (Records kind.Identity) s v in_format = written_records format kind.Identity refl s v s.identities.rows (λ x m. m)
written_table format (Records kind.Service) s v in_format = written_records format kind.Service refl s v s.services.rows (λ x m. m)
written_table format (Records kind.Router) s v in_format = written_records format kind.Router refl s v s.routers.rows (λ x m. m)
written_table format (Records kind.Link) s v in_format = written_records format kind.Link refl s v s.links.rows (λ x m. m)
written_table format (Records kind.ServicePolicy) s v in_format = written_records format kind.ServicePolicy refl s v s.service_policies.rows (λ x m. m)
written_table format (Records kind.EdgeRouterPolicy) s v in_format = written_records format kind.EdgeRouterPolicy refl s v s.edge_router_policies.rows (λ x m. m)
written_table format (Records kind.ServiceEdgeRouterPolicy) s v in_format = written_records format kind.ServiceEdgeRouterPolicy refl s v s.service_edge_router_policies.rows (λ x m. m)
written_table format (Records kind.Terminator) s v in_format = written_records format kind.Terminator refl s v s.terminators.rows (λ x m. m)
written_table format (Records kind.Circuit) s v in_format = written_records format kind.Circuit refl s v s.circuits.rows (λ x m. m)
written_table format (Records kind.Attribute) s v in_format = tt
written_table format (Counts r) s v in_format = written_counts format r s v
written_table One Intercepts s v in_format = absurd (false≢true (below_sixteen Intercepts in_format))
written_table Two Intercepts s v in_format = written_intercepts s v s.intercepts (λ x m. m)
written_table One Serial s v in_format = absurd (false≢true (below_sixteen Serial in_format))
written_table Two Serial s v in_format = All-cond (Written Two) (17, 0, 0) (nat_lt 0 s.serial) (wide s.serial) (λ above. written_serial s.serial above v.counted)

-- each row of a valid state stands under a key, has a row's form, and is short enough for a batch
pub written_rows : (format : Format) (s : State) → ValidState s → AllByRecursion (Written format) (rows_of format s)
written_rows format s v = All-flat_map (Written format) (λ t. rows_in format t s) (tables_of format) (All-among (λ t. AllByRecursion (Written format) (rows_in format t s)) (tables_of format) (λ t m. written_table format t s v m))

pub AreKeys-rows_of : (format : Format) (s : State) → ValidState s → AreKeys (rows_of format s)
AreKeys-rows_of format s v = All-more (Written format) (λ x. is_key x.0 ≡ true) (λ x w. w.under_key) (rows_of format s) (written_rows format s v)
