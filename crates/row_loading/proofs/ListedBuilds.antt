-- The rows of a valid state, one after another, build the state but for its next numbers, and none of them has a flaw.
use Rattle.std.proofs.Common.{◌≡◌, ℕ, ◌==◌, ◌&&◌, nat_lt, Bool, true, false, not, inl, inr, List, [], ◌∷◌, ◌++◌, map, flat_map, None, refl, sym, ◌∙◌, ap, ap₂, subst, append-nil, append_assoc, eqb-true, eq-eqb, arith, ◌+◌, ◌≤◌, le-leb, lt-ltb, ltb-false}
use Rattle.std.proofs.lemmas.Bool.{and_parts, and_from}
use Rattle.std.specs.List.{AllByRecursion}
use Rattle.ctrl_model.specs.declared.formats.Format.{Format}
use Rattle.ctrl_model.specs.declared.formats.Format.TheVariants.{One, Two}
use Rattle.ctrl_model.specs.declared.intercepts.Intercept.{Intercept}
use Rattle.ctrl_model.specs.declared.kinds.Kind.{Kind}
use Rattle.ctrl_model.specs.declared.kinds.Kind.TheVariants as kind
use Rattle.ctrl_model.specs.declared.kinds.Relation.{Relation}
use Rattle.ctrl_model.specs.declared.kinds.Relation.TheVariants.{Dial, Bind, IdentityRouter, ServiceRouter}
use Rattle.ctrl_model.specs.ValueForms.{is_link_cost}
use Rattle.ctrl_model.specs.Membership.{Among}
use Rattle.ctrl_model.specs.NameForm.{is_name}
use Rattle.ctrl_model.specs.InterceptForm.{is_intercept}
use Rattle.ctrl_model.specs.Limits.{last_serial}
use Rattle.ctrl_model.specs.Numbered.{is_present, with_last, Between}
use Rattle.ctrl_model.specs.State.{State, start}
use Rattle.ctrl_model.specs.Tables.{Record, table}
use Rattle.ctrl_model.specs.Grants.{count, same_relation, left_numbers, right_numbers}
use Rattle.ctrl_model.specs.ValidState.{ValidState, is_valid_intercept, may_relate}
use Rattle.ctrl_model.proofs.Members.{list_all-among, Among-append_right}
use Rattle.row_codec.specs.declared.rows.Row.{Row}
use Rattle.row_codec.specs.declared.rows.Row.TheVariants as row
use Rattle.row_codec.specs.RowKeys.{kinds, kind_number}
use Rattle.row_codec.specs.RowKeys.RowTable.{Next, Setting, Records, Counts, Intercepts, Serial}
use Rattle.row_codec.specs.RowForm.{is_listed_side}
use Rattle.row_codec.specs.StateRows.{HasRows}
use Rattle.row_laws.specs.FittingRecords.{fits}
use Rattle.row_laws.proofs.RisingRows.{All-each, All-flat_map}
use Rattle.row_laws.proofs.TableRows.{has_number}
use Rattle.row_laws.proofs.WrittenRecords.{record_fits}
use Rattle.state_building.specs.declared.flaws.Flaw.{Flaw}
use Rattle.state_building.specs.declared.flaws.Flaw.TheVariants.{NoRecord, OutOfOrder, Hanging, WrongCount}
use Rattle.state_building.specs.RowForms.{Cases, by_row}
use Rattle.state_building.specs.JoinedRecords.{claimed, flaw_if, flaw_of, flaw_of_intercept, flaw_of_serial, is_above_all, joined}
use Rattle.state_building.specs.BuiltStates.{with_row, flaw_in, built, AreFlawless}
use Rattle.row_loading.proofs.FrontStates.{before, with_claims, front, front-nothing, joined-front, count-end}
use Rattle.row_loading.proofs.ListedStates.{hosts_back, row_for, count_row, row_if, listed_in, listed}
use Rattle.row_loading.proofs.NextRecords.{least, next_flawless}

-- ---- rows that lead from one state to another

-- none of the rows has a flaw after those before it, and they build the second state of the first
pub record Leads (nexts : Kind → ℕ) (rows : List Row) (u v : State) : Type 0 where
  pub flawless : AreFlawless nexts rows u
  pub ends : built rows u ≡ v

Leads-nothing : (nexts : Kind → ℕ) (u v : State) → u ≡ v → Leads nexts [] u v
Leads-nothing nexts u v e = record { flawless = tt; ends = e }

Leads-first : (nexts : Kind → ℕ) (x : Row) (xs : List Row) (u v w : State) → flaw_in nexts x u ≡ None → with_row x u ≡ v → Leads nexts xs v w → Leads nexts (x ∷ xs) u w
Leads-first nexts x xs u v w none step later = record {
  flawless = (none, subst (λ t. AreFlawless nexts xs t) (sym step) later.flawless);
  ends = ap (built xs) step ∙ later.ends;
}

Leads-append : (nexts : Kind → ℕ) (xs ys : List Row) (u v w : State) → Leads nexts xs u v → Leads nexts ys v w → Leads nexts (xs ++ ys) u w
Leads-append nexts [] ys u v w f g = record { flawless = subst (λ t. AreFlawless nexts ys t) (sym f.ends) g.flawless; ends = ap (built ys) f.ends ∙ g.ends }
Leads-append nexts (x ∷ xs) ys u v w f g =
    Leads-first nexts x (xs ++ ys) u (with_row x u) w f.flawless.0 refl
    (Leads-append nexts xs ys (with_row x u) v w (record { flawless = f.flawless.1; ends = f.ends }) g)

-- ---- rows that change nothing

Leads-stay : (nexts : Kind → ℕ) (xs : List Row) (u : State) → AllByRecursion (λ x. (flaw_in nexts x u ≡ None) × (with_row x u ≡ u)) xs → Leads nexts xs u u
Leads-stay nexts [] u a = Leads-nothing nexts u u refl
Leads-stay nexts (x ∷ xs) u a = Leads-first nexts x xs u u u a.0.0 a.0.1 (Leads-stay nexts xs u a.1)

All-if : (P : Row → Type 0) (b : Bool) (x : Row) → P x → AllByRecursion P (row_if b x)
All-if P true x p = (p, tt)
All-if P false x p = tt

nexts_lead : (nexts : Kind → ℕ) (s u : State) → Leads nexts (listed_in Next s) u u
nexts_lead nexts s u =
    Leads-stay nexts (listed_in Next s) u
    (All-flat_map (λ x. (flaw_in nexts x u ≡ None) × (with_row x u ≡ u)) (λ k. row_if (nat_lt 1 (table k s).next) (row.Next (kind_number k) (table k s).next)) kinds
    (All-each _ (λ k. All-if (λ x. (flaw_in nexts x u ≡ None) × (with_row x u ≡ u)) (nat_lt 1 (table k s).next) (row.Next (kind_number k) (table k s).next) (refl, refl)) kinds))

same_flaw : (m n : ℕ) → m ≡ n → flaw_if (not (m == n)) WrongCount None ≡ None
same_flaw m n e = ap (λ b. flaw_if (not b) WrongCount None) (eq-eqb m n e)

count_stays : (nexts : Kind → ℕ) (r : Relation) (u : State) (a b c : ℕ) → count r u a b ≡ c
    → (flaw_in nexts (count_row r a b c) u ≡ None) × (with_row (count_row r a b c) u ≡ u)
count_stays nexts Dial u a b c e = (same_flaw (count Dial u a b) c e, refl)
count_stays nexts Bind u a b c e = (same_flaw (count Bind u a b) c e, refl)
count_stays nexts IdentityRouter u a b c e = (same_flaw (count IdentityRouter u a b) c e, refl)
count_stays nexts ServiceRouter u a b c e = (same_flaw (count ServiceRouter u a b) c e, refl)

counts_lead : (nexts : Kind → ℕ) (r : Relation) (s : State) → Leads nexts (listed_in (Counts r) s) (before kind.Attribute s) (before kind.Attribute s)
counts_lead nexts r s =
    let u = before kind.Attribute s in
    Leads-stay nexts (listed_in (Counts r) s) u
    (All-flat_map (λ x. (flaw_in nexts x u ≡ None) × (with_row x u ≡ u))
    (λ a. flat_map (λ b. row_if (nat_lt 0 (count r s a b)) (count_row r a b (count r s a b))) (right_numbers r s)) (left_numbers r s)
    (All-each _ (λ a. All-flat_map (λ x. (flaw_in nexts x u ≡ None) × (with_row x u ≡ u))
    (λ b. row_if (nat_lt 0 (count r s a b)) (count_row r a b (count r s a b))) (right_numbers r s)
    (All-each _ (λ b. All-if _ (nat_lt 0 (count r s a b)) (count_row r a b (count r s a b)) (count_stays nexts r u a b (count r s a b) (count-end r s [] 0 a b))) (right_numbers r s)))
    (left_numbers r s)))

-- ---- the setting

setting_leads : (nexts : Kind → ℕ) (s : State) → ValidState s → Leads nexts (listed_in Setting s) start (before kind.Identity s)
setting_leads nexts s v = by (s.least_router_cost == start.least_router_cost) refl
  where
    by : (b : Bool) → (s.least_router_cost == start.least_router_cost) ≡ b → Leads nexts (row_if (not b) (row.Setting s.least_router_cost)) start (before kind.Identity s)
    by true e = Leads-nothing nexts start (before kind.Identity s) (λ i. record start { least_router_cost = sym (eqb-true s.least_router_cost start.least_router_cost e) i })
    by false e =
        Leads-first nexts (row.Setting s.least_router_cost) [] start (before kind.Identity s) (before kind.Identity s)
        (ap (λ b. flaw_if (not b) NoRecord None) v.setting) refl (Leads-nothing nexts (before kind.Identity s) (before kind.Identity s) refl)

-- ---- the records of a kind

router_relation : (r : Relation) → same_relation IdentityRouter r ≡ true → IdentityRouter ≡ r
router_relation Dial e = absurd (cc)
router_relation Bind e = absurd (cc)
router_relation IdentityRouter e = refl
router_relation ServiceRouter e = absurd (cc)

service_relation : (r : Relation) → same_relation ServiceRouter r ≡ true → ServiceRouter ≡ r
service_relation Dial e = absurd (cc)
service_relation Bind e = absurd (cc)
service_relation IdentityRouter e = absurd (cc)
service_relation ServiceRouter e = refl

related : (a b c : Bool) → (a && (b && c)) ≡ true → b ≡ true
related a b c e = (and_parts b c (and_parts a (b && c) e).1).0

-- the row of a record that fits is the record under its number
by_row-row_for : {A : Type 0} (c : Cases A) (k : Kind) (n : ℕ) (r : Record k) → has_number One (Records k) ≡ true → fits k r ≡ true → by_row c (row_for k n r) ≡ c.one k n r
by_row-row_for c kind.EdgeRouterPolicy n p has f =
    let same = router_relation p.relation (related (is_name p.name) (may_relate kind.EdgeRouterPolicy p.relation) (is_listed_side p.left && is_listed_side p.right) f) in
    λ i. c.one kind.EdgeRouterPolicy n (record p { relation = same i })
by_row-row_for c kind.ServiceEdgeRouterPolicy n p has f =
    let same = service_relation p.relation (related (is_name p.name) (may_relate kind.ServiceEdgeRouterPolicy p.relation) (is_listed_side p.left && is_listed_side p.right) f) in
    λ i. c.one kind.ServiceEdgeRouterPolicy n (record p { relation = same i })
by_row-row_for c kind.Terminator n t has f = λ i. c.one kind.Terminator n (record t { host = hosts_back t.host i })
by_row-row_for c kind.Attribute n r has f = absurd (cc)
by_row-row_for c k n r has f = refl

-- what a row of a record makes of a state, and why it cannot come next
joins_row : (k : Kind) (n : ℕ) (r : Record k) (u : State) → has_number One (Records k) ≡ true → fits k r ≡ true → with_row (row_for k n r) u ≡ joined k n r u
joins_row k n r u = by_row-row_for (record {
  next = λ k n. u;
  setting = λ cost. record u { least_router_cost = cost };
  one = λ k n r. joined k n r u;
  count = λ r a b c. u;
  intercept = λ n i. claimed n i u;
  serial = λ n. record u { serial = n };
}) k n r

flaw_row : (nexts : Kind → ℕ) (k : Kind) (n : ℕ) (r : Record k) (u : State) → has_number One (Records k) ≡ true → fits k r ≡ true
    → flaw_in nexts (row_for k n r) u ≡ flaw_of nexts k n r u
flaw_row nexts k n r u = by_row-row_for (record {
  next = λ k n. None;
  setting = λ cost. flaw_if (not (is_link_cost cost)) NoRecord None;
  one = λ k n r. flaw_of nexts k n r u;
  count = λ r a b c. flaw_if (not (count r u a b == c)) WrongCount None;
  intercept = λ n i. flaw_of_intercept n i u;
  serial = λ n. flaw_of_serial n;
}) k n r

records_on : (k : Kind) → has_number One (Records k) ≡ true → (s : State) → ValidState s → (nexts : Kind → ℕ) → nexts k ≡ (table k s).next
    → (done more : List (ℕ × Record k)) → done ++ more ≡ (table k s).rows
    → ((x : ℕ × Record k) → Among x more → fits k x.1 ≡ true)
    → Leads nexts (map (λ x. row_for k x.0 x.1) more) (front k done s) (front k (table k s).rows s)
records_on k has s v nexts next done [] split fit =
    Leads-nothing nexts (front k done s) (front k (table k s).rows s) (ap (λ rows. front k rows s) (sym (append-nil done) ∙ split))
records_on k has s v nexts next done (x ∷ xs) split fit =
    let one = fit x (inl refl) in
    Leads-first nexts (row_for k x.0 x.1) (map (λ x. row_for k x.0 x.1) xs) (front k done s) (front k (with_last done x.0 x.1) s) (front k (table k s).rows s)
    (flaw_row nexts k x.0 x.1 (front k done s) has one ∙ next_flawless k has s v nexts next done xs x.0 x.1 split)
    (joins_row k x.0 x.1 (front k done s) has one ∙ joined-front k has done x.0 x.1 s)
    (records_on k has s v nexts next (with_last done x.0 x.1) xs (append_assoc done (x ∷ []) xs ∙ split) (λ y m. fit y (inr m)))

records_lead : (k : Kind) → has_number One (Records k) ≡ true → (s : State) → ValidState s → (nexts : Kind → ℕ) → nexts k ≡ (table k s).next
    → Leads nexts (listed_in (Records k) s) (before k s) (front k (table k s).rows s)
records_lead k has s v nexts next =
    subst (λ t. Leads nexts (listed_in (Records k) s) t (front k (table k s).rows s)) (front-nothing k s)
    (records_on k has s v nexts next [] (table k s).rows refl (record_fits s v k))

-- ---- intercepts and the serial

above_all : {R : Type 0} (low high : ℕ) (done more : List (ℕ × R)) (n : ℕ) (r : R) → Between low high (done ++ (n, r) ∷ more) → is_above_all n done ≡ true
above_all low high [] more n r b = refl
above_all low high (x ∷ xs) more n r b =
    let l = least (x.0 + 1) high xs more n r b.2 in
    and_from (nat_lt x.0 n) (is_above_all n xs) (lt-ltb x.0 n (omega (arith, l))) (above_all (x.0 + 1) high xs more n r b.2)

no_flaw : (a b c : Bool) (p q r : Flaw) → a ≡ true → b ≡ true → c ≡ true → flaw_if (not a) p (flaw_if (not b) q (flaw_if (not c) r None)) ≡ None
no_flaw true true true p q r e f g = refl
no_flaw true true false p q r e f g = absurd (cc)
no_flaw true false c p q r e f g = absurd (cc)
no_flaw false b c p q r e f g = absurd (cc)

-- the row of an intercept
abbrev claim_row : ℕ × Intercept → Row
claim_row x = row.Intercept (record { 0 = x.0 }) x.1

claims_on : (nexts : Kind → ℕ) (s : State) → ValidState s → (done more : List (ℕ × Intercept)) → done ++ more ≡ s.intercepts
    → Leads nexts (map claim_row more) (with_claims done 0 s) (with_claims s.intercepts 0 s)
claims_on nexts s v done [] split =
    Leads-nothing nexts (with_claims done 0 s) (with_claims s.intercepts 0 s) (ap (λ is. with_claims is 0 s) (sym (append-nil done) ∙ split))
claims_on nexts s v done (x ∷ xs) split =
    let here : Among {X = ℕ × Intercept} x s.intercepts = subst (λ rows. Among {X = ℕ × Intercept} x rows) split (Among-append_right done (x ∷ xs) x (inl refl)) in
    let valid = and_parts (is_present s.services.rows x.0) (is_intercept x.1) (list_all-among (is_valid_intercept s) s.intercepts x v.intercepts here) in
    Leads-first nexts (claim_row x) (map claim_row xs) (with_claims done 0 s) (with_claims (with_last done x.0 x.1) 0 s) (with_claims s.intercepts 0 s)
    (no_flaw (is_above_all x.0 done) (is_intercept x.1) (is_present s.services.rows x.0) OutOfOrder NoRecord Hanging
    (above_all 1 s.services.next done xs x.0 x.1 (subst (λ rows. Between 1 s.services.next rows) (sym split) v.ordered)) valid.1 valid.0)
    refl (claims_on nexts s v (with_last done x.0 x.1) xs (append_assoc done (x ∷ []) xs ∙ split))

serial_leads : (nexts : Kind → ℕ) (s : State) → ValidState s → (is : List (ℕ × Intercept)) → Leads nexts (listed_in Serial s) (with_claims is 0 s) (with_claims is s.serial s)
serial_leads nexts s v is = by (nat_lt 0 s.serial) refl
  where
    none : (n : ℕ) → n ≤ 0 → 0 ≡ n
    none n h = omega arith

    by : (b : Bool) → nat_lt 0 s.serial ≡ b → Leads nexts (row_if b (row.Serial s.serial)) (with_claims is 0 s) (with_claims is s.serial s)
    by true e =
        Leads-first nexts (row.Serial s.serial) [] (with_claims is 0 s) (with_claims is s.serial s) (with_claims is s.serial s)
        (ap (λ b. flaw_if (not b) NoRecord None) (le-leb s.serial last_serial v.counted)) refl
        (Leads-nothing nexts (with_claims is s.serial s) (with_claims is s.serial s) refl)
    by false e = Leads-nothing nexts (with_claims is 0 s) (with_claims is s.serial s) (ap (λ n. with_claims is n s) (none s.serial (ltb-false 0 s.serial e)))

-- ---- all rows

-- the rows of the tables of both formats, and some behind them
abbrev both_rows : State → List Row → List Row
both_rows s rest =
    listed_in Next s ++ (listed_in Setting s
    ++ (listed_in (Records kind.Identity) s ++ (listed_in (Records kind.Service) s ++ (listed_in (Records kind.Router) s ++ (listed_in (Records kind.Link) s
    ++ (listed_in (Records kind.ServicePolicy) s ++ (listed_in (Records kind.EdgeRouterPolicy) s ++ (listed_in (Records kind.ServiceEdgeRouterPolicy) s
    ++ (listed_in (Records kind.Terminator) s ++ (listed_in (Records kind.Circuit) s
    ++ (listed_in (Counts Dial) s ++ (listed_in (Counts Bind) s ++ (listed_in (Counts IdentityRouter) s ++ (listed_in (Counts ServiceRouter) s ++ rest))))))))))))))

all_lead : (s : State) → ValidState s → (nexts : Kind → ℕ) → ((k : Kind) → nexts k ≡ (table k s).next) → (end : State) (rest : List Row)
    → Leads nexts rest (before kind.Attribute s) end → Leads nexts (both_rows s rest) start end
all_lead s v nexts next end rest later =
    Leads-append nexts _ _ start start _ (nexts_lead nexts s start)
    (Leads-append nexts _ _ start (before kind.Identity s) _ (setting_leads nexts s v)
    (Leads-append nexts _ _ (before kind.Identity s) (before kind.Service s) _ (records_lead kind.Identity refl s v nexts (next kind.Identity))
    (Leads-append nexts _ _ (before kind.Service s) (before kind.Router s) _ (records_lead kind.Service refl s v nexts (next kind.Service))
    (Leads-append nexts _ _ (before kind.Router s) (before kind.Link s) _ (records_lead kind.Router refl s v nexts (next kind.Router))
    (Leads-append nexts _ _ (before kind.Link s) (before kind.ServicePolicy s) _ (records_lead kind.Link refl s v nexts (next kind.Link))
    (Leads-append nexts _ _ (before kind.ServicePolicy s) (before kind.EdgeRouterPolicy s) _ (records_lead kind.ServicePolicy refl s v nexts (next kind.ServicePolicy))
    (Leads-append nexts _ _ (before kind.EdgeRouterPolicy s) (before kind.ServiceEdgeRouterPolicy s) _ (records_lead kind.EdgeRouterPolicy refl s v nexts (next kind.EdgeRouterPolicy))
    (Leads-append nexts _ _ (before kind.ServiceEdgeRouterPolicy s) (before kind.Terminator s) _
    (records_lead kind.ServiceEdgeRouterPolicy refl s v nexts (next kind.ServiceEdgeRouterPolicy))
    (Leads-append nexts _ _ (before kind.Terminator s) (before kind.Circuit s) _ (records_lead kind.Terminator refl s v nexts (next kind.Terminator))
    (Leads-append nexts _ _ (before kind.Circuit s) (before kind.Attribute s) _ (records_lead kind.Circuit refl s v nexts (next kind.Circuit))
    (counted Dial (counted Bind (counted IdentityRouter (counted ServiceRouter later))))))))))))))
  where
    counted : (r : Relation) {more : List Row} → Leads nexts more (before kind.Attribute s) end → Leads nexts (listed_in (Counts r) s ++ more) (before kind.Attribute s) end
    counted r {more = more} later = Leads-append nexts (listed_in (Counts r) s) more (before kind.Attribute s) (before kind.Attribute s) end (counts_lead nexts r s) later

pub listed_leads : (f : Format) (s : State) → ValidState s → HasRows f s → (nexts : Kind → ℕ) → ((k : Kind) → nexts k ≡ (table k s).next)
    → Leads nexts (listed f s) start (with_claims s.intercepts s.serial s)
listed_leads One s v has nexts next =
    all_lead s v nexts next (with_claims s.intercepts s.serial s) []
    (Leads-nothing nexts (before kind.Attribute s) (with_claims s.intercepts s.serial s) (ap₂ (λ is n. with_claims is n s) (sym has.0) (sym has.1)))
listed_leads Two s v has nexts next =
    all_lead s v nexts next (with_claims s.intercepts s.serial s) (listed_in Intercepts s ++ (listed_in Serial s ++ []))
    (Leads-append nexts _ _ (before kind.Attribute s) (with_claims s.intercepts 0 s) _ (claims_on nexts s v [] s.intercepts refl)
    (Leads-append nexts _ _ (with_claims s.intercepts 0 s) (with_claims s.intercepts s.serial s) _ (serial_leads nexts s v s.intercepts)
    (Leads-nothing nexts (with_claims s.intercepts s.serial s) (with_claims s.intercepts s.serial s) refl)))
