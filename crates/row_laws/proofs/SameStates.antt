-- Two valid states with equal rows are equal.
use Rattle.std.proofs.Common.{◌≡◌, ℕ, ◌≤◌, ◌==◌, nat_lt, nat_le, Bool, true, false, cond, List, [], ◌∷◌, Option, None, Some, option_map, refl, sym, ◌∙◌, ap, subst, arith, eqb-true, leb-true, ltb-false, le_trans}
use Rattle.std.proofs.lemmas.Bool.{and_parts}
use Rattle.std.proofs.lemmas.Option.{same_Some, none-some}
use Rattle.std.proofs.lemmas.Cmp.{tied_itself, nat_list_cmp_total}
use Rattle.ctrl_model.specs.declared.formats.Format.{Format}
use Rattle.ctrl_model.specs.declared.formats.Format.TheVariants.{One, Two}
use Rattle.ctrl_model.specs.declared.intercepts.Intercept.{Intercept}
use Rattle.ctrl_model.specs.declared.kinds.Kind.{Kind}
use Rattle.ctrl_model.specs.declared.kinds.Kind.TheVariants as kind
use Rattle.ctrl_model.specs.Limits.{last_next, last_serial}
use Rattle.ctrl_model.specs.InterceptForm.{is_intercept}
use Rattle.ctrl_model.specs.Numbered.{Table, at, is_present, Between}
use Rattle.ctrl_model.specs.State.{State, Entity, start}
use Rattle.ctrl_model.specs.Tables.{Record, table}
use Rattle.ctrl_model.specs.ValidState.{ValidState, is_valid_intercept}
use Rattle.ctrl_model.proofs.NumberedLaws.{same_numbered}
use Rattle.ctrl_model.proofs.Members.{at-row, list_all-among}
use Rattle.row_codec.specs.RowKeys.{Key, key_cmp, key_bytes, key_in, kind_number, is_key, is_long}
use Rattle.row_codec.specs.RowKeys.RowTable.{Next, Setting, Records, Intercepts, Serial}
use Rattle.row_codec.specs.RowValues.{long, wide, record_value, intercept_value}
use Rattle.row_codec.specs.RowDifference.{value_at}
use Rattle.row_codec.specs.StateRows.{Rows, next_value, setting_value, serial_value, rows_of, row_at, HasRows}
use Rattle.row_codec.specs.Batches.{bytes_cmp, spelled_rows}
use Rattle.row_laws.proofs.KeyOrders.{key_exact, bytes_order, long_upto}
use Rattle.row_laws.proofs.RowsAtKeys.{value_at-rows_of}
use Rattle.row_laws.proofs.SpelledChanges.{row_at-next, row_at-record}
use Rattle.row_laws.proofs.SpelledKeys.{AreKeys}
use Rattle.row_laws.proofs.SpelledValues.{long_same, same_record, same_intercept, same_wide, first_same}
use Rattle.row_laws.proofs.TableRows.{row_at-table}
use Rattle.row_laws.proofs.WrittenRecords.{record_fits}
use Rattle.row_laws.proofs.WrittenRows.{AreKeys-rows_of}

-- ---- numbers

one_long : (m n : ℕ) → is_long m ≡ true → is_long n ≡ true → long m ≡ long n → m ≡ n
one_long m n h k e = (long_same m n [] [] h k e).0

next_same : (m n : ℕ) → 1 ≤ m → 1 ≤ n → m ≤ last_next → n ≤ last_next → next_value m ≡ next_value n → m ≡ n
next_same m n a b h k e = by (nat_lt 1 m) (nat_lt 1 n) refl refl e
  where
    by : (c d : Bool) → nat_lt 1 m ≡ c → nat_lt 1 n ≡ d → cond c (Some (long m)) None ≡ cond d (Some (long n)) None → m ≡ n
    by true true p q f = one_long m n (long_upto m h) (long_upto n k) (same_Some (long m) (long n) f)
    by true false p q f = absurd (none-some (long m) (sym f))
    by false true p q f = absurd (none-some (long n) f)
    by false false p q f = one_one m n a b (ltb-false 1 m p) (ltb-false 1 n q)
      where
        one_one : (m n : ℕ) → 1 ≤ m → 1 ≤ n → m ≤ 1 → n ≤ 1 → m ≡ n
        one_one m n a b c d = omega arith

setting_same : (m n : ℕ) → is_long m ≡ true → is_long n ≡ true → setting_value m ≡ setting_value n → m ≡ n
setting_same m n h k e = by (m == start.least_router_cost) (n == start.least_router_cost) refl refl e
  where
    by : (c d : Bool) → (m == start.least_router_cost) ≡ c → (n == start.least_router_cost) ≡ d → cond c None (Some (long m)) ≡ cond d None (Some (long n)) → m ≡ n
    by true true p q f = eqb-true m start.least_router_cost p ∙ sym (eqb-true n start.least_router_cost q)
    by true false p q f = absurd (none-some (long n) f)
    by false true p q f = absurd (none-some (long m) (sym f))
    by false false p q f = one_long m n h k (same_Some (long m) (long n) f)

setting_fits : (s : State) → ValidState s → is_long s.least_router_cost ≡ true
setting_fits s v =
    long_upto s.least_router_cost
    (le_trans (leb-true s.least_router_cost 65535 (and_parts (nat_le 1 s.least_router_cost) (nat_le s.least_router_cost 65535) v.setting).1) (omega arith))

-- ---- tables

same_at : (k : Kind) (s t : State) → ValidState s → ValidState t → (n : ℕ)
    → option_map (record_value k) (at (table k s).rows n) ≡ option_map (record_value k) (at (table k t).rows n) → at (table k s).rows n ≡ at (table k t).rows n
same_at k s t v w n e = by (at (table k s).rows n) (at (table k t).rows n) refl refl e
  where
    by : (o p : Option (Record k)) → at (table k s).rows n ≡ o → at (table k t).rows n ≡ p → option_map (record_value k) o ≡ option_map (record_value k) p → o ≡ p
    by None None a b f = refl
    by None (Some q) a b f = absurd (none-some (record_value k q) f)
    by (Some r) None a b f = absurd (none-some (record_value k r) (sym f))
    by (Some r) (Some q) a b f =
        ap Some (same_record k r q (record_fits s v k (n, r) (at-row (table k s).rows n r a)) (record_fits t w k (n, q) (at-row (table k t).rows n q b))
        (same_Some (record_value k r) (record_value k q) f))

-- a table of which the next number and each record are written alike
same_table : (k : Kind) (s t : State) → ValidState s → ValidState t → next_value (table k s).next ≡ next_value (table k t).next
    → ((n : ℕ) → option_map (record_value k) (at (table k s).rows n) ≡ option_map (record_value k) (at (table k t).rows n)) → table k s ≡ table k t
same_table k s t v w e f =
    let a = (v.kinds k).numbers in
    let b = (w.kinds k).numbers in
    let next = next_same (table k s).next (table k t).next a.first b.first a.last b.last e in
    let rows = same_numbered (table k s).next (table k s).rows (table k t).rows 1 a.ordered
    (subst (λ high. Between 1 high (table k t).rows) (sym next) b.ordered) (λ n. same_at k s t v w n (f n)) in
    λ i. record { rows = rows i; next = next i }

-- ---- intercepts and the serial

intercept_at_same : (s t : State) → ValidState s → ValidState t → (n : ℕ) → option_map intercept_value (at s.intercepts n) ≡ option_map intercept_value (at t.intercepts n)
    → at s.intercepts n ≡ at t.intercepts n
intercept_at_same s t v w n e = by (at s.intercepts n) (at t.intercepts n) refl refl e
  where
    own : (u : State) → ValidState u → (i : Intercept) → at u.intercepts n ≡ Some i → is_intercept i ≡ true
    own u valid i is = (and_parts (is_present u.services.rows n) (is_intercept i) (list_all-among (is_valid_intercept u) u.intercepts (n, i) valid.intercepts (at-row u.intercepts n i is))).1

    by : (o p : Option Intercept) → at s.intercepts n ≡ o → at t.intercepts n ≡ p → option_map intercept_value o ≡ option_map intercept_value p → o ≡ p
    by None None a b f = refl
    by None (Some j) a b f = absurd (none-some (intercept_value j) f)
    by (Some i) None a b f = absurd (none-some (intercept_value i) (sym f))
    by (Some i) (Some j) a b f = ap Some (same_intercept i j (own s v i a) (own t w j b) (same_Some (intercept_value i) (intercept_value j) f))

serial_same : (m n : ℕ) → m ≤ last_serial → n ≤ last_serial → serial_value m ≡ serial_value n → m ≡ n
serial_same m n h k e = by (nat_lt 0 m) (nat_lt 0 n) refl refl e
  where
    by : (c d : Bool) → nat_lt 0 m ≡ c → nat_lt 0 n ≡ d → cond c (Some (wide m)) None ≡ cond d (Some (wide n)) None → m ≡ n
    by true true p q f = same_wide m n (omega (arith, h)) (omega (arith, k)) (same_Some (wide m) (wide n) f)
    by true false p q f = absurd (none-some (wide m) (sym f))
    by false true p q f = absurd (none-some (wide n) f)
    by false false p q f = let a = ltb-false 0 m p in let b = ltb-false 0 n q in omega (arith, a, b)

-- what only the second format tells
told_in : (format : Format) (s t : State) → ValidState s → ValidState t → HasRows format s → HasRows format t → s.services ≡ t.services
    → ((key : Key) → row_at format s key ≡ row_at format t key) → (s.intercepts ≡ t.intercepts) × (s.serial ≡ t.serial)
told_in One s t v w has_s has_t services e = (has_s.0 ∙ sym has_t.0, has_s.1 ∙ sym has_t.1)
told_in Two s t v w has_s has_t services e = (
  same_numbered s.services.next s.intercepts t.intercepts 1 v.ordered (subst (λ (u : Table Entity). Between 1 u.next t.intercepts) (sym services) w.ordered)
      (λ n. intercept_at_same s t v w n (sym (row_at-table Two Intercepts refl s (16, n, 0) refl) ∙ e (16, n, 0) ∙ row_at-table Two Intercepts refl t (16, n, 0) refl)),
  serial_same s.serial t.serial v.counted w.counted (sym (row_at-table Two Serial refl s (17, 0, 0) refl) ∙ e (17, 0, 0) ∙ row_at-table Two Serial refl t (17, 0, 0) refl),
)

-- ---- states

pub same_from_keys : (format : Format) (s t : State) → ValidState s → ValidState t → HasRows format s → HasRows format t → ((key : Key) → row_at format s key ≡ row_at format t key) → s ≡ t
same_from_keys format s t v w has_s has_t e =
    let told = told_in format s t v w has_s has_t (same kind.Service refl) e in
    let cost = setting_same s.least_router_cost t.least_router_cost (setting_fits s v) (setting_fits t w) (sym (row_at-table format Setting refl s (2, 0, 0) refl) ∙ e (2, 0, 0) ∙ row_at-table format Setting refl t (2, 0, 0) refl) in
    λ i. record {
      identities = same kind.Identity refl i;
      services = same kind.Service refl i;
      routers = same kind.Router refl i;
      links = same kind.Link refl i;
      service_policies = same kind.ServicePolicy refl i;
      edge_router_policies = same kind.EdgeRouterPolicy refl i;
      service_edge_router_policies = same kind.ServiceEdgeRouterPolicy refl i;
      terminators = same kind.Terminator refl i;
      circuits = same kind.Circuit refl i;
      least_router_cost = cost i;
      intercepts = told.0 i;
      serial = told.1 i;
    }
  where
    same : (k : Kind) → nat_le 1 (kind_number k) ≡ true → table k s ≡ table k t
    same k h =
        let one = leb-true 1 (kind_number k) h in
        same_table k s t v w (sym (row_at-next format k s one) ∙ e (key_in Next (kind_number k) 0) ∙ row_at-next format k t one)
        (λ n. sym (row_at-record format k s n one) ∙ e (key_in (Records k) n 0) ∙ row_at-record format k t n one)

pub same_from_rows : (format : Format) (s t : State) → ValidState s → ValidState t → HasRows format s → HasRows format t → rows_of format s ≡ rows_of format t → s ≡ t
same_from_rows format s t v w has_s has_t e =
    same_from_keys format s t v w has_s has_t (λ q. sym (value_at-rows_of format s q) ∙ ap (λ (rows : Rows). value_at key_cmp rows q) e ∙ value_at-rows_of format t q)

-- ---- rows that are spelled alike

pub key_same : (k l : Key) → is_key k ≡ true → is_key l ≡ true → key_bytes k ≡ key_bytes l → k ≡ l
key_same k l h j e = key_exact k l (sym (bytes_order k l h j) ∙ ap (λ b. bytes_cmp (key_bytes k) b) (sym e) ∙ tied_itself nat_list_cmp_total (key_bytes k))

pub same_spelled : (xs ys : Rows) → AreKeys xs → AreKeys ys → spelled_rows xs ≡ spelled_rows ys → xs ≡ ys
same_spelled [] [] a b e = refl
same_spelled [] (y ∷ ys) a b e = absurd (cc)
same_spelled (x ∷ xs) [] a b e = absurd (cc)
same_spelled (x ∷ xs) (y ∷ ys) a b e =
    let parts = first_same (key_bytes x.0, x.1) (key_bytes y.0, y.1) (spelled_rows xs) (spelled_rows ys) e in
    let key = key_same x.0 y.0 a.0 b.0 (ap (λ (p : List ℕ × List ℕ). p.0) parts.0) in
    let value = ap (λ (p : List ℕ × List ℕ). p.1) parts.0 in
    let rest = same_spelled xs ys a.1 b.1 parts.1 in λ i. (key i, value i) ∷ rest i

pub same_from_spelled : (format : Format) (s t : State) → ValidState s → ValidState t → HasRows format s → HasRows format t
    → spelled_rows (rows_of format s) ≡ spelled_rows (rows_of format t) → s ≡ t
same_from_spelled format s t v w has_s has_t e =
    same_from_rows format s t v w has_s has_t (same_spelled (rows_of format s) (rows_of format t) (AreKeys-rows_of format s v) (AreKeys-rows_of format t w) e)
