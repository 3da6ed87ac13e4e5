-- The rows of a state rise where its tables are numbered.
use Rattle.std.proofs.Common.{◌≡◌, ℕ, ◌+◌, ◌<◌, nat_lt, true, List, [], ◌∷◌, map, flat_map, Option, None, Some, refl, sym, ◌∙◌, arith, lt_of_lt_of_le}
use Rattle.std.specs.List.{AllByRecursion}
use Rattle.ctrl_model.specs.declared.formats.Format.{Format}
use Rattle.ctrl_model.specs.declared.formats.Format.TheVariants.{One, Two}
use Rattle.ctrl_model.specs.declared.kinds.Kind.{Kind}
use Rattle.ctrl_model.specs.declared.kinds.Kind.TheVariants as kind
use Rattle.ctrl_model.specs.declared.kinds.Relation.{Relation}
use Rattle.ctrl_model.specs.declared.kinds.Relation.TheVariants.{Dial, Bind, IdentityRouter, ServiceRouter}
use Rattle.ctrl_model.specs.Numbered.{Between}
use Rattle.ctrl_model.specs.State.{State}
use Rattle.ctrl_model.specs.Tables.{table}
use Rattle.ctrl_model.specs.Grants.{count, left_numbers, right_numbers}
use Rattle.row_codec.specs.RowKeys.{RowTable, Key, kinds, kind_number, key_cmp, table_number, tables_of}
use Rattle.row_codec.specs.RowKeys.RowTable.{Next, Setting, Records, Counts, Intercepts, Serial}
use Rattle.row_codec.specs.RowValues.{record_value, intercept_value}
use Rattle.row_codec.specs.RowDifference.{Rises}
use Rattle.row_codec.specs.StateRows.{next_value, setting_value, serial_value, count_value, row_if_some, rows_in, rows_of}
use Rattle.record_tables.proofs.GoneLaws.{Climbs-numbers}
use Rattle.row_laws.specs.ChangedKeys.{Climbs}
use Rattle.row_laws.specs.OrderedIntercepts.{AscendIn}
use Rattle.std.proofs.lemmas.Bool.{false≢true}
use Rattle.ctrl_model.specs.Membership.{Among}
use Rattle.ctrl_model.proofs.Members.{each_among}
use Rattle.row_laws.proofs.RisingRows.{Above, All-each, All-flat_map, All-tested}
use Rattle.row_laws.proofs.RowsAtKeys.{tables_climb}
use Rattle.row_laws.proofs.KeyOrders.{less_by_table, less_by_first, less_by_second}
use Rattle.row_laws.proofs.JoinedRows.{Climbs-from, Rises-joined}

-- the tables of a state are numbered
abbrev pub IsNumbered : State → Type 0
IsNumbered s = (k : Kind) → Between 1 (table k s).next (table k s).rows

lt_of_eq : (a b c d : ℕ) → a ≡ b → b < c → d ≡ c → a < d
lt_of_eq a b c d e l f = omega arith

pub All-row : (P : Key → Type 0) (key : Key) (o : Option (List ℕ)) → P key → AllByRecursion (λ r. P r.0) (row_if_some key o)
All-row P key None h = tt
All-row P key (Some v) h = (h, tt)

Rises-row : (key : Key) (o : Option (List ℕ)) → Rises key_cmp (row_if_some key o)
Rises-row key None = tt
Rises-row key (Some v) = (tt, tt)

-- ---- the rows of each table rise

Rises-next : (f : Format) (s : State) → Rises key_cmp (rows_in f Next s)
Rises-next f s =
    Rises-joined kind_number (λ k key. (key.0 ≡ 1) × (key.1 ≡ kind_number k)) (λ k. row_if_some (1, kind_number k, 0) (next_value (table k s).next))
    (λ x y less p q here there.
    let one = here.0 ∙ sym there.0 in
    let below = lt_of_eq p.1 (kind_number x) (kind_number y) q.1 here.1 less there.1 in less_by_first p q one below)
    (λ k. All-row (λ key. (key.0 ≡ 1) × (key.1 ≡ kind_number k)) (1, kind_number k, 0) (next_value (table k s).next) (refl, refl))
    kinds (λ k m. Rises-row (1, kind_number k, 0) (next_value (table k s).next)) (Climbs-from kind_number kinds refl)

Above-records : {R : Type 0} (t n : ℕ) (f : R → List ℕ) (high : ℕ) (rows : List (ℕ × R)) (low : ℕ) → Between low high rows → n < low
    → Above key_cmp (t, n, 0) (map (λ x. ((t, x.0, 0), f x.1)) rows)
Above-records t n f high [] low b h = tt
Above-records t n f high (x ∷ xs) low b h =
    (less_by_first (t, n, 0) (t, x.0, 0) refl (lt_of_lt_of_le h b.0), Above-records t n f high xs (x.0 + 1) b.2 (omega arith))

pub Rises-records : {R : Type 0} (t : ℕ) (f : R → List ℕ) (high : ℕ) (rows : List (ℕ × R)) (low : ℕ) → Between low high rows
    → Rises key_cmp (map (λ x. ((t, x.0, 0), f x.1)) rows)
Rises-records t f high [] low b = tt
Rises-records t f high (x ∷ xs) low b = (Above-records t x.0 f high xs (x.0 + 1) b.2 (omega arith), Rises-records t f high xs (x.0 + 1) b.2)

left_climbs : (r : Relation) (s : State) → IsNumbered s → Climbs (λ n. n) (left_numbers r s)
left_climbs Dial s n = Climbs-numbers s.identities.next s.identities.rows 1 (n kind.Identity)
left_climbs Bind s n = Climbs-numbers s.identities.next s.identities.rows 1 (n kind.Identity)
left_climbs IdentityRouter s n = Climbs-numbers s.identities.next s.identities.rows 1 (n kind.Identity)
left_climbs ServiceRouter s n = Climbs-numbers s.services.next s.services.rows 1 (n kind.Service)

right_climbs : (r : Relation) (s : State) → IsNumbered s → Climbs (λ n. n) (right_numbers r s)
right_climbs Dial s n = Climbs-numbers s.services.next s.services.rows 1 (n kind.Service)
right_climbs Bind s n = Climbs-numbers s.services.next s.services.rows 1 (n kind.Service)
right_climbs IdentityRouter s n = Climbs-numbers s.routers.next s.routers.rows 1 (n kind.Router)
right_climbs ServiceRouter s n = Climbs-numbers s.routers.next s.routers.rows 1 (n kind.Router)

pub Rises-pairs : (t : ℕ) (v : ℕ → ℕ → Option (List ℕ)) (ls rs : List ℕ) → Climbs (λ n. n) ls → Climbs (λ n. n) rs
    → Rises key_cmp (flat_map (λ a. flat_map (λ b. row_if_some (t, a, b) (v a b)) rs) ls)
Rises-pairs t v ls rs c d =
    Rises-joined (λ n. n) (λ a key. (key.0 ≡ t) × (key.1 ≡ a)) (λ a. flat_map (λ b. row_if_some (t, a, b) (v a b)) rs)
    (λ x y less p q here there. let below : p.1 < q.1 = lt_of_eq p.1 x y q.1 here.1 less there.1 in less_by_first p q (here.0 ∙ sym there.0) below)
    (λ a. All-flat_map (λ r. (r.0.0 ≡ t) × (r.0.1 ≡ a)) (λ b. row_if_some (t, a, b) (v a b)) rs
    (All-each (λ b. AllByRecursion (λ r. (r.0.0 ≡ t) × (r.0.1 ≡ a)) (row_if_some (t, a, b) (v a b)))
    (λ b. All-row (λ key. (key.0 ≡ t) × (key.1 ≡ a)) (t, a, b) (v a b) (refl, refl)) rs))
    ls
    (λ a at_a. Rises-joined (λ n. n) (λ b key. (key.0 ≡ t) × (key.1 ≡ a) × (key.2 ≡ b)) (λ b. row_if_some (t, a, b) (v a b))
    (λ x y less p q here there. let below : p.2 < q.2 = lt_of_eq p.2 x y q.2 here.2 less there.2 in
    less_by_second p q (here.0 ∙ sym there.0) (here.1 ∙ sym there.1) below)
    (λ b. All-row (λ key. (key.0 ≡ t) × (key.1 ≡ a) × (key.2 ≡ b)) (t, a, b) (v a b) (refl, refl, refl)) rs (λ b at_b. Rises-row (t, a, b) (v a b)) d)
    c

pub below_sixteen : (t : RowTable) → Among t (tables_of One) → nat_lt (table_number t) 16 ≡ true
below_sixteen t m = each_among (λ u. nat_lt (table_number u) 16 ≡ true) (tables_of One) t (All-tested (λ u. nat_lt (table_number u) 16) (tables_of One) refl) m

-- the tables of a format, of which the second alone has the last two
pub Rises-rows_in : (f : Format) (t : RowTable) (s : State) → IsNumbered s → AscendIn f s → Among t (tables_of f) → Rises key_cmp (rows_in f t s)
Rises-rows_in f Next s n o m = Rises-next f s
Rises-rows_in f Setting s n o m = Rises-row (2, 0, 0) (setting_value s.least_router_cost)
Rises-rows_in f (Records k) s n o m = Rises-records (kind_number k + 2) (record_value k) (table k s).next (table k s).rows 1 (n k)
Rises-rows_in f (Counts r) s n o m =
    Rises-pairs (table_number (Counts r)) (λ a b. count_value f (count r s a b)) (left_numbers r s) (right_numbers r s) (left_climbs r s n) (right_climbs r s n)
Rises-rows_in One Intercepts s n o m = absurd (false≢true (below_sixteen Intercepts m))
Rises-rows_in Two Intercepts s n o m = Rises-records 16 intercept_value s.services.next s.intercepts 1 o
Rises-rows_in f Serial s n o m = Rises-row (17, 0, 0) (serial_value s.serial)

-- ---- the keys of a table have its number

All-records : {R : Type 0} (P : Key → Type 0) (t : ℕ) (f : R → List ℕ) (rows : List (ℕ × R)) → AllByRecursion (λ (x : ℕ × R). P (t, x.0, 0)) rows
    → AllByRecursion (λ (r : Key × List ℕ). P r.0) (map (λ x. ((t, x.0, 0), f x.1)) rows)
All-records P t f [] a = tt
All-records P t f (x ∷ xs) a = (a.0, All-records P t f xs a.1)

keys_of_table : (f : Format) (t : RowTable) (s : State) → AllByRecursion (λ r. r.0.0 ≡ table_number t) (rows_in f t s)
keys_of_table f Next s =
    All-flat_map (λ r. r.0.0 ≡ 1) (λ k. row_if_some (1, kind_number k, 0) (next_value (table k s).next)) kinds
    (All-each (λ k. AllByRecursion (λ r. r.0.0 ≡ 1) (row_if_some (1, kind_number k, 0) (next_value (table k s).next)))
    (λ k. All-row (λ key. key.0 ≡ 1) (1, kind_number k, 0) (next_value (table k s).next) refl) kinds)
keys_of_table f Setting s = All-row (λ key. key.0 ≡ 2) (2, 0, 0) (setting_value s.least_router_cost) refl
keys_of_table f (Records k) s =
    All-records (λ key. key.0 ≡ kind_number k + 2) (kind_number k + 2) (record_value k) (table k s).rows
    (All-each (λ x. kind_number k + 2 ≡ kind_number k + 2) (λ x. refl) (table k s).rows)
keys_of_table f (Counts r) s =
    let t = table_number (Counts r) in
    let v : ℕ → ℕ → Option (List ℕ) = λ a b. count_value f (count r s a b) in
    All-flat_map (λ r. r.0.0 ≡ t) (λ a. flat_map (λ b. row_if_some (t, a, b) (v a b)) (right_numbers r s)) (left_numbers r s)
    (All-each (λ a. AllByRecursion (λ r. r.0.0 ≡ t) (flat_map (λ b. row_if_some (t, a, b) (v a b)) (right_numbers r s)))
    (λ a. All-flat_map (λ r. r.0.0 ≡ t) (λ b. row_if_some (t, a, b) (v a b)) (right_numbers r s)
    (All-each (λ b. AllByRecursion (λ r. r.0.0 ≡ t) (row_if_some (t, a, b) (v a b))) (λ b. All-row (λ key. key.0 ≡ t) (t, a, b) (v a b) refl) (right_numbers r s)))
    (left_numbers r s))
keys_of_table f Intercepts s =
    All-records (λ key. key.0 ≡ 16) 16 intercept_value s.intercepts (All-each (λ x. 16 ≡ 16) (λ x. refl) s.intercepts)
keys_of_table f Serial s = All-row (λ key. key.0 ≡ 17) (17, 0, 0) (serial_value s.serial) refl

-- ---- all rows

pub Rises-rows_of : (f : Format) (s : State) → IsNumbered s → AscendIn f s → Rises key_cmp (rows_of f s)
Rises-rows_of f s n o =
    Rises-joined table_number (λ t key. key.0 ≡ table_number t) (λ t. rows_in f t s)
    (λ x y less p q here there. less_by_table p q (lt_of_eq p.0 (table_number x) (table_number y) q.0 here less there)) (λ t. keys_of_table f t s)
    (tables_of f) (λ t m. Rises-rows_in f t s n o m) (tables_climb f)
