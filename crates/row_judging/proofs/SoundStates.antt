-- A state that is found is valid, and has the rows.
use Rattle.std.proofs.Common.{◌≡◌, ℕ, ◌≤◌, ◌^◌, ◌<◌, ◌==◌, ◌&&◌, nat_lt, Bool, true, false, cond, List, [], ◌∷◌, None, Some, refl, sym, ap, ◌∙◌, subst, arith, ltb-true}
use Rattle.std.specs.Prelude.{⊤}
use Rattle.std.specs.declared.option.Option.{Option}
use Rattle.std.specs.Option.{option_map, unwrap_or, is_none}
use Rattle.std.specs.List.{AllByRecursion, list_all}
use Rattle.std.specs.Str.{bytes_eq}
use Rattle.std.proofs.lemmas.Bool.{and_parts}
use Rattle.ctrl_model.proofs.DistinctLaws.{same_name}
use Rattle.ctrl_model.specs.declared.formats.Format.{Format}
use Rattle.ctrl_model.specs.declared.formats.Format.TheVariants.{One, Two}
use Rattle.ctrl_model.specs.declared.kinds.Kind.{Kind}
use Rattle.ctrl_model.specs.declared.kinds.Kind.TheVariants as kind
use Rattle.ctrl_model.specs.declared.kinds.Relation.{Relation}
use Rattle.ctrl_model.specs.declared.kinds.Relation.TheVariants as relation
use Rattle.ctrl_model.specs.Limits.{last_next}
use Rattle.ctrl_model.specs.State.{State, start}
use Rattle.ctrl_model.specs.ValidState.{ValidState}
use Rattle.row_codec.specs.declared.rows.Row.{Row}
use Rattle.row_codec.specs.declared.rows.Row.TheVariants as row
use Rattle.row_codec.specs.RowForm.{is_count}
use Rattle.row_codec.specs.RowKeys.{RowTable, kinds, kind_number, is_long}
use Rattle.row_codec.specs.RowKeys.RowTable.{Next, Setting, Records, Counts, Intercepts, Serial}
use Rattle.row_codec.specs.StateRows.{rows_of, HasRows}
use Rattle.row_codec.specs.Batches.{spelled_rows}
use Rattle.row_codec.specs.FieldReading.{Front, front_long, front_number, front_byte, front_count, front_wide, kept, both, alone, at_end}
use Rattle.row_codec.proofs.FieldLaws.{bind_some, map_some}
use Rattle.row_reading.specs.RowReading.{is_kind, is_next, is_setting, is_serial, front_entity, front_router, front_link, front_service_policy, front_router_policy, front_terminator, front_circuit, front_intercept, front_nothing, row_read, count_read, record_read, table_read, row_table_of, row_of}
use Rattle.state_building.specs.BuiltStates.{flaw_in, with_row, built, AreFlawless, next_said, next_in, state_in}
use Rattle.state_building.proofs.BuiltRows.{start-valid, built-valid, start-below, built-below, with_nexts-valid}
use Rattle.row_loading.proofs.RowThings.{is_plain, thing_of, things_of, built-things}
use Rattle.row_loading.proofs.ThingsAtKeys.{built-plain}
use Rattle.slot_reading.specs.BatchRows.{ByteRows}
use Rattle.row_judging.specs.JudgedRows.{rows_read, are_flawless, same_rows, judged_rows, judged}

-- ---- what is read of one row

-- A next number that is read is one that can be, and the first format reads no intercept and no serial.
abbrev pub IsSound : Format → Row → Type 0
IsSound f (row.Next k n) = is_next n ≡ true
IsSound One (row.Intercept service intercept) = ⊥
IsSound One (row.Serial serial) = ⊥
IsSound f _ = ⊤

read_sound : {K V : Type 0} (f : List ℕ → Front K) (g : List ℕ → Front V) (make : K → V → Row) (P : Row → Type 0) (rest value : List ℕ) (x : Row)
    → ((k : K) (v : V) → alone g value ≡ Some v → P (make k v)) → row_read f g make rest value ≡ Some x → P x
read_sound f g make P rest value x each e =
    let k = bind_some (alone f rest) (λ k. option_map (λ v. make k v) (alone g value)) x e in
    let v = map_some (alone g value) (λ v. make k.0 v) x k.2 in
    subst P v.2 (each k.0 v.0 v.1)

-- What is kept passes the test.
kept_passes : {A : Type 0} (test : A → Bool) (front : List ℕ → Front A) (bytes : List ℕ) (x : A) → alone (kept test front) bytes ≡ Some x → test x ≡ true
kept_passes {A = A} test front bytes x e =
    let found = bind_some (kept test front bytes) (λ y. at_end y.0 y.1) x e in
    let own = bind_some (front bytes) (λ y. cond (test y.0) (Some y) None) found.0 found.1 in
    by (test own.0.0) own.0 found.0 refl own.2 found.2
  where
    ended : (y : A) (rest : List ℕ) → at_end y rest ≡ Some x → y ≡ x
    ended y [] e = cc
    ended y (b ∷ rest) e = absurd cc

    by : (b : Bool) → (y z : A × List ℕ) → test y.0 ≡ b → cond b (Some y) None ≡ Some z → at_end z.0 z.1 ≡ Some x → test x ≡ true
    by true y z is same end =
        let one : y ≡ z = cc in
        ap test (sym (ended z.0 z.1 end)) ∙ ap (λ (w : A × List ℕ). test w.0) (sym one) ∙ is
    by false y z is same end = absurd cc

record_sound : (f : Format) (k : Kind) (rest value : List ℕ) (x : Row) → record_read k rest value ≡ Some x → IsSound f x
record_sound f kind.Identity rest value x e =
    read_sound front_number front_entity (λ n v. row.Identity (record { 0 = n }) v.0 v.1) (IsSound f) rest value x (λ k v g. tt) e
record_sound f kind.Service rest value x e =
    read_sound front_number front_entity (λ n v. row.Service (record { 0 = n }) v.0 v.1) (IsSound f) rest value x (λ k v g. tt) e
record_sound f kind.Router rest value x e =
    read_sound front_number front_router (λ n v. row.Router (record { 0 = n }) v.0 v.1.0 v.1.1.0 v.1.1.1.0 v.1.1.1.1) (IsSound f) rest value x (λ k v g. tt) e
record_sound f kind.Link rest value x e =
    read_sound front_number front_link (λ n v. row.Link (record { 0 = n }) v.0 (record { 0 = v.1.0 }) (record { 0 = v.1.1.0 }) v.1.1.1.0 v.1.1.1.1.0 v.1.1.1.1.1.0 v.1.1.1.1.1.1) (IsSound f) rest value x (λ k v g. tt) e
record_sound f kind.ServicePolicy rest value x e =
    read_sound front_number front_service_policy (λ n v. row.ServicePolicy (record { 0 = n }) v.0 v.1.0 v.1.1.0 v.1.1.1.0 v.1.1.1.1) (IsSound f) rest value x (λ k v g. tt) e
record_sound f kind.EdgeRouterPolicy rest value x e =
    read_sound front_number front_router_policy (λ n v. row.EdgeRouterPolicy (record { 0 = n }) v.0 v.1.0 v.1.1.0 v.1.1.1) (IsSound f) rest value x (λ k v g. tt) e
record_sound f kind.ServiceEdgeRouterPolicy rest value x e =
    read_sound front_number front_router_policy (λ n v. row.ServiceEdgeRouterPolicy (record { 0 = n }) v.0 v.1.0 v.1.1.0 v.1.1.1) (IsSound f) rest value x (λ k v g. tt) e
record_sound f kind.Terminator rest value x e =
    read_sound front_number front_terminator (λ n v. row.Terminator (record { 0 = n }) (record { 0 = v.0 }) (record { 0 = v.1.0 }) (option_map (λ h. record { 0 = h }) v.1.1.0) v.1.1.1.0 v.1.1.1.1.0 v.1.1.1.1.1) (IsSound f) rest value x (λ k v g. tt) e
record_sound f kind.Circuit rest value x e =
    read_sound front_number front_circuit (λ n v. row.Circuit (record { 0 = n }) (record { 0 = v.0 }) (record { 0 = v.1.0 }) (record { 0 = v.1.1.0 }) (record { 0 = v.1.1.1.0 }) v.1.1.1.1) (IsSound f) rest value x (λ k v g. tt) e
record_sound f kind.Attribute rest value x e = absurd cc

count_sound : (f : Format) (r : Relation) (rest value : List ℕ) (x : Row) → count_read f r rest value ≡ Some x → IsSound f x
count_sound f relation.Dial rest value x e =
    read_sound (both front_number front_number) (kept (is_count f) (front_count f)) (λ k n. row.Dial (record { 0 = k.0 }) (record { 0 = k.1 }) n) (IsSound f) rest value x (λ k v g. tt) e
count_sound f relation.Bind rest value x e =
    read_sound (both front_number front_number) (kept (is_count f) (front_count f)) (λ k n. row.Bind (record { 0 = k.0 }) (record { 0 = k.1 }) n) (IsSound f) rest value x (λ k v g. tt) e
count_sound f relation.IdentityRouter rest value x e =
    read_sound (both front_number front_number) (kept (is_count f) (front_count f)) (λ k n. row.IdentityRouter (record { 0 = k.0 }) (record { 0 = k.1 }) n) (IsSound f) rest value x (λ k v g. tt) e
count_sound f relation.ServiceRouter rest value x e =
    read_sound (both front_number front_number) (kept (is_count f) (front_count f)) (λ k n. row.ServiceRouter (record { 0 = k.0 }) (record { 0 = k.1 }) n) (IsSound f) rest value x (λ k v g. tt) e

table_sound : (f : Format) (t : RowTable) (rest value : List ℕ) (x : Row) → table_read f t rest value ≡ Some x → IsSound f x
table_sound f Next rest value x e =
    read_sound (kept is_kind front_byte) (kept is_next front_long) (λ k n. row.Next k n) (IsSound f) rest value x (λ k v g. kept_passes is_next front_long value v g) e
table_sound f Setting rest value x e =
    read_sound front_nothing (kept is_setting front_long) (λ u n. row.Setting n) (IsSound f) rest value x (λ k v g. tt) e
table_sound f (Records k) rest value x e = record_sound f k rest value x e
table_sound f (Counts r) rest value x e = count_sound f r rest value x e
table_sound One Intercepts rest value x e = absurd cc
table_sound Two Intercepts rest value x e =
    read_sound front_number front_intercept (λ n i. row.Intercept (record { 0 = n }) i) (IsSound Two) rest value x (λ k v g. tt) e
table_sound One Serial rest value x e = absurd cc
table_sound Two Serial rest value x e =
    read_sound front_nothing (kept is_serial front_wide) (λ u n. row.Serial n) (IsSound Two) rest value x (λ k v g. tt) e

row_sound : (f : Format) (key value : List ℕ) (x : Row) → row_of f key value ≡ Some x → IsSound f x
row_sound f [] value x e = absurd cc
row_sound f (number ∷ rest) value x e =
    let t = bind_some (row_table_of number) (λ t. table_read f t rest value) x e in
    table_sound f t.0 rest value x t.2

-- So is what is read of rows.
all_sound : (f : Format) (rows : ByteRows) (xs : List Row) → rows_read f rows ≡ Some xs → AllByRecursion (IsSound f) xs
all_sound f [] [] e = tt
all_sound f [] (x ∷ xs) e = absurd cc
all_sound f (r ∷ rows) xs e =
    let one = bind_some (row_of f r.0 r.1) (λ x. option_map (λ more. x ∷ more) (rows_read f rows)) xs e in
    let rest = map_some (rows_read f rows) (λ more. one.0 ∷ more) xs one.2 in
    subst (AllByRecursion (IsSound f)) rest.2 (row_sound f r.0 r.1 one.0 one.1, all_sound f rows rest.0 rest.1)

-- ---- next numbers

abbrev CanBe : ℕ → Type 0
CanBe n = (1 ≤ n) × (n ≤ last_next)

next_can : (n : ℕ) → is_next n ≡ true → CanBe n
next_can n e =
    let parts = and_parts (nat_lt 1 n) (is_long n) e in
    let one = ltb-true 1 n parts.0 in
    let below : n < 4294967296 = ltb-true n (2 ^ 32) parts.1 in
    (omega arith, omega arith)

next_fits : (f : Format) (x : Row) (k : Kind) (rest : ℕ) → IsSound f x → CanBe rest → CanBe (unwrap_or (next_said k x) rest)
next_fits f (row.Next j n) k rest sound can = by (j == kind_number k)
  where
    by : (b : Bool) → CanBe (unwrap_or (cond b (Some n) None) rest)
    by true = next_can n sound
    by false = can
next_fits f x k rest sound can = can

nexts_fit : (f : Format) (xs : List Row) (k : Kind) → AllByRecursion (IsSound f) xs → CanBe (next_in xs k)
nexts_fit f [] k sound = (omega arith, omega arith)
nexts_fit f (x ∷ xs) k sound = next_fits f x k (next_in xs k) sound.0 (nexts_fit f xs k sound.1)

-- ---- the state

flawless_so : (nexts : Kind → ℕ) (xs : List Row) (s : State) → are_flawless nexts xs s ≡ true → AreFlawless nexts xs s
flawless_so nexts [] s e = tt
flawless_so nexts (x ∷ xs) s e =
    let parts = and_parts (is_none (flaw_in nexts x s)) (are_flawless nexts xs (with_row x s)) e in
    (none (flaw_in nexts x s) parts.0, flawless_so nexts xs (with_row x s) parts.1)
  where
    none : {A : Type 0} (o : Option A) → is_none o ≡ true → o ≡ None
    none None is = refl
    none (Some y) is = absurd cc

valid_state : (f : Format) (xs : List Row) → AllByRecursion (IsSound f) xs → AreFlawless (next_in xs) xs start → ValidState (state_in xs)
valid_state f xs sound flawless =
    let nexts = next_in xs in
    let last : (k : Kind) → nexts k ≤ last_next = λ k. (nexts_fit f xs k sound).1 in
    with_nexts-valid nexts last kinds (built xs start) (built-valid nexts last xs start start-valid flawless)
    (λ k. built-below nexts xs start (start-below nexts) flawless k (nexts_fit f xs k sound).0)

plain_row : (x : Row) → IsSound One x → is_plain (thing_of x) ≡ true
plain_row (row.Intercept n i) sound = absurd sound
plain_row (row.Serial n) sound = absurd sound
plain_row x sound = refl

plain_rows : (xs : List Row) → AllByRecursion (IsSound One) xs → list_all is_plain (things_of xs) ≡ true
plain_rows [] sound = refl
plain_rows (x ∷ xs) sound = ap (λ (b : Bool). b && list_all is_plain (things_of xs)) (plain_row x sound.0) ∙ plain_rows xs sound.1

has_rows : (f : Format) (xs : List Row) → AllByRecursion (IsSound f) xs → HasRows f (state_in xs)
has_rows One xs sound =
    let plain = built-plain (things_of xs) start (plain_rows xs sound) in
    (ap (λ (t : State). t.intercepts) (built-things xs start) ∙ plain.0, ap (λ (t : State). t.serial) (built-things xs start) ∙ plain.1)
has_rows Two xs sound = tt

-- ---- the rows

rows_same : (rows others : ByteRows) → same_rows rows others ≡ true → rows ≡ others
rows_same [] [] e = refl
rows_same [] (y ∷ ys) e = absurd cc
rows_same (x ∷ xs) [] e = absurd cc
rows_same (x ∷ xs) (y ∷ ys) e =
    let parts = and_parts (bytes_eq x.0 y.0 && bytes_eq x.1 y.1) (same_rows xs ys) e in
    let both = and_parts (bytes_eq x.0 y.0) (bytes_eq x.1 y.1) parts.0 in
    let key : x.0 ≡ y.0 = same_name x.0 y.0 both.0 in
    let value : x.1 ≡ y.1 = same_name x.1 y.1 both.1 in
    ap (λ (k : List ℕ). (k, x.1) ∷ xs) key ∙ ap (λ (v : List ℕ). (y.0, v) ∷ xs) value ∙ ap (λ (l : ByteRows). y ∷ l) (rows_same xs ys parts.1)

-- ---- all of it

found_by : (f : Format) (rows : ByteRows) (xs : List Row) (s : State) → AllByRecursion (IsSound f) xs → judged_rows f rows xs ≡ Some s
    → ValidState s × HasRows f s × (rows ≡ spelled_rows (rows_of f s))
found_by f rows xs s sound e = by (are_flawless (next_in xs) xs start && same_rows rows (spelled_rows (rows_of f (state_in xs)))) refl e
  where
    by : (b : Bool) → (are_flawless (next_in xs) xs start && same_rows rows (spelled_rows (rows_of f (state_in xs)))) ≡ b → cond b (Some (state_in xs)) None ≡ Some s
        → ValidState s × HasRows f s × (rows ≡ spelled_rows (rows_of f s))
    by true is found =
        let same : state_in xs ≡ s = cc in
        let parts = and_parts (are_flawless (next_in xs) xs start) (same_rows rows (spelled_rows (rows_of f (state_in xs)))) is in
        let flawless = flawless_so (next_in xs) xs start parts.0 in (
          subst ValidState same (valid_state f xs sound flawless),
          subst (HasRows f) same (has_rows f xs sound),
          rows_same rows (spelled_rows (rows_of f (state_in xs))) parts.1 ∙ ap (λ (t : State). spelled_rows (rows_of f t)) same,
        )
    by false is found = absurd cc

pub sound : (f : Format) (rows : ByteRows) (s : State) → judged f rows ≡ Some s → ValidState s × HasRows f s × (rows ≡ spelled_rows (rows_of f s))
sound f rows s e =
    let xs = bind_some (rows_read f rows) (λ xs. judged_rows f rows xs) s e in
    found_by f rows xs.0 s (all_sound f rows xs.0 xs.1) xs.2
