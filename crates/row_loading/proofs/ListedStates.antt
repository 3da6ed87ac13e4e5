-- The rows of a valid state, one by one: each has a row's form, and under their keys they are the state's rows.
use Rattle.std.proofs.Common.{◌≡◌, ℕ, ◌==◌, ◌&&◌, nat_lt, nat_le, not, Bool, true, false, cond, inl, inr, List, [], ◌∷◌, ◌++◌, map, flat_map, Option, None, Some, option_map, refl, sym, ◌∙◌, ap₂, subst, arith, le_trans, leb-true, lt-ltb, ◌^◌, ◌≤◌}
use Rattle.std.proofs.lemmas.Bool.{and_parts, and_from, not_from_false, false≢true}
use Rattle.std.proofs.lemmas.List.{map-append}
use Rattle.std.proofs.lemmas.List.Folds.{list_all-append}
use Rattle.std.specs.List.{list_all}
use Rattle.ctrl_model.specs.declared.formats.Format.{Format}
use Rattle.ctrl_model.specs.declared.formats.Format.TheVariants.{One, Two}
use Rattle.ctrl_model.specs.declared.kinds.Kind.{Kind}
use Rattle.ctrl_model.specs.declared.kinds.Kind.TheVariants as kind
use Rattle.ctrl_model.specs.declared.kinds.Relation.{Relation}
use Rattle.ctrl_model.specs.declared.kinds.Relation.TheVariants.{Dial, Bind, IdentityRouter, ServiceRouter}
use Rattle.ctrl_model.specs.declared.numbering.IdentityNo.{IdentityNo}
use Rattle.ctrl_model.specs.Membership.{Among}
use Rattle.ctrl_model.specs.NameForm.{is_name, is_instance}
use Rattle.ctrl_model.specs.State.{State, start}
use Rattle.ctrl_model.specs.Tables.{Record, table}
use Rattle.ctrl_model.specs.Grants.{count, left_numbers, right_numbers}
use Rattle.ctrl_model.specs.ValidState.{ValidState, is_valid_intercept, may_relate}
use Rattle.ctrl_model.specs.InterceptForm.{is_intercept}
use Rattle.ctrl_model.specs.Limits.{last_serial}
use Rattle.ctrl_model.specs.Numbered.{is_present}
use Rattle.ctrl_model.proofs.Members.{Among-map, list_all-among}
use Rattle.row_codec.specs.declared.rows.Row.{Row}
use Rattle.row_codec.specs.declared.rows.Row.TheVariants as row
use Rattle.row_codec.specs.RowKeys.{RowTable, Key, kinds, kind_number, key_in, tables_of, is_long}
use Rattle.row_codec.specs.RowKeys.RowTable.{Next, Setting, Records, Counts, Intercepts, Serial}
use Rattle.row_codec.specs.RowValues.{long, record_value, intercept_value}
use Rattle.row_codec.specs.RowForm.{is_row, key_of, value_of, is_count, is_wide, is_short, is_listed_side, is_host}
use Rattle.row_codec.specs.StateRows.{Rows, next_value, setting_value, serial_value, count_value, row_if_some, rows_in, rows_of}
use Rattle.row_laws.specs.FittingRecords.{fits}
use Rattle.row_laws.proofs.KeyOrders.{long_upto}
use Rattle.row_laws.proofs.RisingStates.{below_sixteen}
use Rattle.row_laws.proofs.TableRows.{has_number}
use Rattle.row_laws.proofs.WrittenRecords.{listed_fits, present_fits, record_fits}
use Rattle.row_laws.proofs.WrittenRows.{count_fits, left_fits, right_fits}
use Rattle.row_loading.specs.LoadedRows.{keyed}

-- ---- rows of records and counts

-- the row of a record
abbrev pub row_for : (k : Kind) → ℕ → Record k → Row
row_for kind.Identity n e = row.Identity (record { 0 = n }) e.name e.attributes
row_for kind.Service n e = row.Service (record { 0 = n }) e.name e.attributes
row_for kind.Router n r = row.Router (record { 0 = n }) r.name r.attributes r.cost r.through r.connected
row_for kind.Link n l = row.Link (record { 0 = n }) l.name (record { 0 = l.a }) (record { 0 = l.b }) l.cost l.latency_a l.latency_b l.up
row_for kind.ServicePolicy n p = row.ServicePolicy (record { 0 = n }) p.name p.relation p.semantic p.left p.right
row_for kind.EdgeRouterPolicy n p = row.EdgeRouterPolicy (record { 0 = n }) p.name p.semantic p.left p.right
row_for kind.ServiceEdgeRouterPolicy n p = row.ServiceEdgeRouterPolicy (record { 0 = n }) p.name p.semantic p.left p.right
row_for kind.Terminator n t =
    row.Terminator (record { 0 = n }) (record { 0 = t.service }) (record { 0 = t.router }) (option_map (λ n. record { 0 = n }) t.host) t.instance t.cost t.precedence
row_for kind.Circuit n c = row.Circuit (record { 0 = n }) (record { 0 = c.identity }) (record { 0 = c.service }) (record { 0 = c.terminator }) (record { 0 = c.ingress }) c.links
row_for kind.Attribute n u = row.Setting 0

-- the row of a count of a pair
abbrev pub count_row : Relation → ℕ → ℕ → ℕ → Row
count_row Dial a b c = row.Dial (record { 0 = a }) (record { 0 = b }) c
count_row Bind a b c = row.Bind (record { 0 = a }) (record { 0 = b }) c
count_row IdentityRouter a b c = row.IdentityRouter (record { 0 = a }) (record { 0 = b }) c
count_row ServiceRouter a b c = row.ServiceRouter (record { 0 = a }) (record { 0 = b }) c

-- ---- the rows of a state in a table

-- a row that is there where a test holds
abbrev pub row_if : Bool → Row → List Row
row_if test x = cond test (x ∷ []) []

abbrev pub listed_in : RowTable → State → List Row
listed_in Next s = flat_map (λ k. row_if (nat_lt 1 (table k s).next) (row.Next (kind_number k) (table k s).next)) kinds
listed_in Setting s = row_if (not (s.least_router_cost == start.least_router_cost)) (row.Setting s.least_router_cost)
listed_in (Records k) s = map (λ x. row_for k x.0 x.1) (table k s).rows
listed_in (Counts r) s =
    flat_map (λ a. flat_map (λ b. row_if (nat_lt 0 (count r s a b)) (count_row r a b (count r s a b))) (right_numbers r s)) (left_numbers r s)
listed_in Intercepts s = map (λ x. row.Intercept (record { 0 = x.0 }) x.1) s.intercepts
listed_in Serial s = row_if (nat_lt 0 s.serial) (row.Serial s.serial)

-- the rows of a state in a format
abbrev pub listed : Format → State → List Row
listed f s = flat_map (λ t. listed_in t s) (tables_of f)

-- ---- rows that have a row's form, and are some values under their keys

pub record Lists (format : Format) (xs : List Row) (ys : Rows) : Type 0 where
  pub form : list_all (is_row format) xs ≡ true
  pub entries : keyed format xs ≡ ys

Lists-append : (format : Format) (xs us : List Row) (ys vs : Rows) → Lists format xs ys → Lists format us vs → Lists format (xs ++ us) (ys ++ vs)
Lists-append format xs us ys vs f g = record {
  form = list_all-append (is_row format) xs us ∙ and_from (list_all (is_row format) xs) (list_all (is_row format) us) f.form g.form;
  entries = map-append (λ x. (key_of x, value_of format x)) xs us ∙ ap₂ (λ (a b : Rows). a ++ b) f.entries g.entries;
}

Lists-flat_map : {X : Type 0} (format : Format) (f : X → List Row) (g : X → Rows) (ts : List X) → ((t : X) → Among t ts → Lists format (f t) (g t)) → Lists format (flat_map f ts) (flat_map g ts)
Lists-flat_map format f g [] h = record { form = refl; entries = refl }
Lists-flat_map format f g (t ∷ ts) h = Lists-append format (f t) (flat_map f ts) (g t) (flat_map g ts) (h t (inl refl)) (Lists-flat_map format f g ts (λ u m. h u (inr m)))

Lists-map : {X : Type 0} (format : Format) (f : X → Row) (g : X → Key × List ℕ) (xs : List X)
    → ((x : X) → Among x xs → (is_row format (f x) ≡ true) × (◌≡◌ {A = Key × List ℕ} (key_of (f x), value_of format (f x)) (g x))) → Lists format (map f xs) (map g xs)
Lists-map format f g [] h = record { form = refl; entries = refl }
Lists-map format f g (x ∷ xs) h =
    let here = h x (inl refl) in
    let later = Lists-map format f g xs (λ y m. h y (inr m)) in
    record {
      form = and_from (is_row format (f x)) (list_all (is_row format) (map f xs)) here.0 later.form;
      entries = ap₂ (λ (z : Key × List ℕ) (zs : Rows). z ∷ zs) here.1 later.entries;
    }

Lists-if : (format : Format) (b : Bool) (x : Row) → (b ≡ true → is_row format x ≡ true) → Lists format (row_if b x) (row_if_some (key_of x) (cond b (Some (value_of format x)) None))
Lists-if format true x h = record { form = and_from (is_row format x) true (h refl) refl; entries = refl }
Lists-if format false x h = record { form = refl; entries = refl }

-- ---- table by table

-- the host of a row is that of its record
pub hosts_back : (o : Option ℕ) → option_map (λ (h : IdentityNo). h.0) (option_map (λ n. record { 0 = n }) o) ≡ o
hosts_back None = refl
hosts_back (Some n) = refl

without_relation : (a b c : Bool) → (a && (b && c)) ≡ true → (a && c) ≡ true
without_relation true true c h = h
without_relation true false c h = absurd (false≢true h)
without_relation false b c h = h

record_listed : (format : Format) (k : Kind) (n : ℕ) (r : Record k) → has_number format (Records k) ≡ true → is_long n ≡ true → fits k r ≡ true
    → (is_row format (row_for k n r) ≡ true) × (◌≡◌ {A = Key × List ℕ} (key_of (row_for k n r), value_of format (row_for k n r)) (key_in (Records k) n 0, record_value k r))
record_listed format kind.Identity n r has h f = (and_from (is_long n) _ h f, refl)
record_listed format kind.Service n r has h f = (and_from (is_long n) _ h f, refl)
record_listed format kind.Router n r has h f = (and_from (is_long n) _ h f, refl)
record_listed format kind.Link n r has h f = (and_from (is_long n) _ h f, refl)
record_listed format kind.ServicePolicy n r has h f = (and_from (is_long n) _ h f, refl)
record_listed format kind.EdgeRouterPolicy n r has h f =
    (and_from (is_long n) _ h (without_relation (is_name r.name) (may_relate kind.EdgeRouterPolicy r.relation) (is_listed_side r.left && is_listed_side r.right) f), refl)
record_listed format kind.ServiceEdgeRouterPolicy n r has h f =
    (and_from (is_long n) _ h (without_relation (is_name r.name) (may_relate kind.ServiceEdgeRouterPolicy r.relation) (is_listed_side r.left && is_listed_side r.right) f), refl)
record_listed format kind.Terminator n t has h f =
    let hosts = hosts_back t.host in (
      and_from (is_long n) _ h (subst (λ o. (is_long t.service && (is_long t.router && (is_host o && (is_instance t.instance && is_short t.cost)))) ≡ true) (sym hosts) f),
      λ i. (key_in (Records kind.Terminator) n 0, record_value kind.Terminator (record t { host = hosts i })),
    )
record_listed format kind.Circuit n r has h f = (and_from (is_long n) _ h f, refl)
record_listed format kind.Attribute n r has h f = absurd (cc)

lists_records : (format : Format) (k : Kind) → has_number format (Records k) ≡ true → (s : State) → ValidState s → Lists format (listed_in (Records k) s) (rows_in format (Records k) s)
lists_records format k has s v =
    Lists-map format (λ x. row_for k x.0 x.1) (λ x. (key_in (Records k) x.0 0, record_value k x.1)) (table k s).rows (λ x m.
    record_listed format k x.0 x.1 has (listed_fits (v.kinds k).numbers x.0 (Among-map (λ (y : ℕ × Record k). y.0) (table k s).rows x m)) (record_fits s v k x m))

count_listed : (format : Format) (r : Relation) (a b c : ℕ) → is_long a ≡ true → is_long b ≡ true → (nat_lt 0 c ≡ true → is_count format c ≡ true)
    → Lists format (row_if (nat_lt 0 c) (count_row r a b c)) (row_if_some (key_in (Counts r) a b) (count_value format c))
count_listed format r a b c h k l = by r
  where
    form : nat_lt 0 c ≡ true → (is_long a && (is_long b && is_count format c)) ≡ true
    form p = and_from (is_long a) _ h (and_from (is_long b) _ k (l p))

    by : (r : Relation) → Lists format (row_if (nat_lt 0 c) (count_row r a b c)) (row_if_some (key_in (Counts r) a b) (count_value format c))
    by Dial = Lists-if format (nat_lt 0 c) (count_row Dial a b c) form
    by Bind = Lists-if format (nat_lt 0 c) (count_row Bind a b c) form
    by IdentityRouter = Lists-if format (nat_lt 0 c) (count_row IdentityRouter a b c) form
    by ServiceRouter = Lists-if format (nat_lt 0 c) (count_row ServiceRouter a b c) form

lists_intercepts : (s : State) → ValidState s → Lists Two (listed_in Intercepts s) (rows_in Two Intercepts s)
lists_intercepts s v =
    Lists-map Two (λ x. row.Intercept (record { 0 = x.0 }) x.1) (λ x. (key_in Intercepts x.0 0, intercept_value x.1)) s.intercepts (λ x m.
    let valid = and_parts (is_present s.services.rows x.0) (is_intercept x.1) (list_all-among (is_valid_intercept s) s.intercepts x v.intercepts m) in
    (and_from (is_long x.0) (is_intercept x.1) (present_fits (v.kinds kind.Service).numbers x.0 valid.0).1 valid.1, refl))

lists_serial : (n : ℕ) → n ≤ last_serial → Lists Two (row_if (nat_lt 0 n) (row.Serial n)) (row_if_some (key_in Serial 0 0) (serial_value n))
lists_serial n last = Lists-if Two (nat_lt 0 n) (row.Serial n) (λ above. and_from (nat_lt 0 n) (is_wide n) above (lt-ltb n (2 ^ 64) (omega (arith, last))))

next_listed : (format : Format) (k : Kind) (s : State) → ValidState s → nat_le 1 (kind_number k) ≡ true → nat_le (kind_number k) 9 ≡ true
    → Lists format (row_if (nat_lt 1 (table k s).next) (row.Next (kind_number k) (table k s).next)) (row_if_some (key_in Next (kind_number k) 0) (next_value (table k s).next))
next_listed format k s v low high =
    Lists-if format (nat_lt 1 (table k s).next) (row.Next (kind_number k) (table k s).next) (λ above.
    and_from (nat_le 1 (kind_number k) && nat_le (kind_number k) 9) _ (and_from (nat_le 1 (kind_number k)) _ low high)
    (and_from (nat_lt 1 (table k s).next) _ above (long_upto (table k s).next (v.kinds k).numbers.last)))

setting_long : (s : State) → ValidState s → is_long s.least_router_cost ≡ true
setting_long s v =
    let most = leb-true s.least_router_cost 65535 (and_parts (nat_le 1 s.least_router_cost) (nat_le s.least_router_cost 65535) v.setting).1 in
    long_upto s.least_router_cost (le_trans most (omega arith))

setting_listed : (format : Format) (cost : ℕ) → is_long cost ≡ true
    → Lists format (row_if (not (cost == start.least_router_cost)) (row.Setting cost)) (row_if_some (key_in Setting 0 0) (setting_value cost))
setting_listed format cost h = by (cost == start.least_router_cost) refl
  where
    by : (b : Bool) → (cost == start.least_router_cost) ≡ b → Lists format (row_if (not b) (row.Setting cost)) (row_if_some (key_in Setting 0 0) (cond b None (Some (long cost))))
    by true e = record { form = refl; entries = refl }
    by false e = record {
      form = and_from (is_row format (row.Setting cost)) true (and_from (not (cost == start.least_router_cost)) (is_long cost) (not_from_false (cost == start.least_router_cost) e) h) refl;
      entries = refl;
    }

within_kinds : (k : Kind) → Among k kinds → (nat_le 1 (kind_number k) ≡ true) × (nat_le (kind_number k) 9 ≡ true)
within_kinds k m =
    let passes = by (λ k. nat_le 1 (kind_number k) && nat_le (kind_number k) 9) kinds refl k m in and_parts (nat_le 1 (kind_number k)) (nat_le (kind_number k) 9) passes
  where
    by : (p : Kind → Bool) (ks : List Kind) → list_all p ks ≡ true → (k : Kind) → Among k ks → p k ≡ true
    by p [] h k m = absurd m
    by p (j ∷ ks) h k (inl e) = subst (λ k. p k ≡ true) e (and_parts (p j) (list_all p ks) h).0
    by p (j ∷ ks) h k (inr m) = by p ks (and_parts (p j) (list_all p ks) h).1 k m

lists_table : (format : Format) (t : RowTable) (s : State) → ValidState s → Among t (tables_of format) → Lists format (listed_in t s) (rows_in format t s)
lists_table format Next s v inside =
    Lists-flat_map format (λ k. row_if (nat_lt 1 (table k s).next) (row.Next (kind_number k) (table k s).next)) (λ k. row_if_some (key_in Next (kind_number k) 0) (next_value (table k s).next)) kinds
    (λ k m. let within = within_kinds k m in next_listed format k s v within.0 within.1)
lists_table format Setting s v inside = setting_listed format s.least_router_cost (setting_long s v)
lists_table format (Records kind.Attribute) s v inside = record { form = refl; entries = refl }
lists_table format (Records kind.Identity) s v inside = lists_records format kind.Identity refl s v
lists_table format (Records kind.Service) s v inside = lists_records format kind.Service refl s v
lists_table format (Records kind.Router) s v inside = lists_records format kind.Router refl s v
lists_table format (Records kind.Link) s v inside = lists_records format kind.Link refl s v
lists_table format (Records kind.ServicePolicy) s v inside = lists_records format kind.ServicePolicy refl s v
lists_table format (Records kind.EdgeRouterPolicy) s v inside = lists_records format kind.EdgeRouterPolicy refl s v
lists_table format (Records kind.ServiceEdgeRouterPolicy) s v inside = lists_records format kind.ServiceEdgeRouterPolicy refl s v
lists_table format (Records kind.Terminator) s v inside = lists_records format kind.Terminator refl s v
lists_table format (Records kind.Circuit) s v inside = lists_records format kind.Circuit refl s v
lists_table format (Counts r) s v inside =
    Lists-flat_map format (λ a. flat_map (λ b. row_if (nat_lt 0 (count r s a b)) (count_row r a b (count r s a b))) (right_numbers r s))
    (λ a. flat_map (λ b. row_if_some (key_in (Counts r) a b) (count_value format (count r s a b))) (right_numbers r s)) (left_numbers r s) (λ a m.
    Lists-flat_map format (λ b. row_if (nat_lt 0 (count r s a b)) (count_row r a b (count r s a b)))
    (λ b. row_if_some (key_in (Counts r) a b) (count_value format (count r s a b))) (right_numbers r s) (λ b l.
    count_listed format r a b (count r s a b) (left_fits r s v a m) (right_fits r s v b l) (count_fits format r s v a b)))
lists_table One Intercepts s v inside = absurd (false≢true (below_sixteen Intercepts inside))
lists_table Two Intercepts s v inside = lists_intercepts s v
lists_table One Serial s v inside = absurd (false≢true (below_sixteen Serial inside))
lists_table Two Serial s v inside = lists_serial s.serial v.counted

-- the rows of a state are what it lists
pub lists_state : (format : Format) (s : State) → ValidState s → Lists format (listed format s) (rows_of format s)
lists_state format s v = Lists-flat_map format (λ t. listed_in t s) (λ t. rows_in format t s) (tables_of format) (λ t m. lists_table format t s v m)
