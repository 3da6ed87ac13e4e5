-- The rows of the intercepts after a change, and of the serial of a state that is counted.
use Rattle.std.proofs.Common.{◌≡◌, ℕ, ◌+◌, ◌<◌, ◌≤◌, ◌==◌, nat_lt, Bool, Bor, true, false, cond, find, List, [], ◌∷◌, ◌++◌, map, Option, None, Some, IfSome, option_and_then, option_map, refl, sym, ◌∙◌, ap, subst, arith, eqb-true, ltb-false}
use Rattle.std.proofs.lemmas.Bool.{and_parts, true≢false}
use Rattle.std.proofs.lemmas.Grind.{flat_map-append}
use Rattle.std.proofs.lemmas.List.{append-nil}
use Rattle.std.proofs.lemmas.Option.{none-some, same_Some}
use Rattle.std.specs.List.{AllByRecursion}
use Rattle.std.specs.Option.{option_or}
use Rattle.ctrl_model.specs.declared.formats.Format.TheVariants.{Two}
use Rattle.ctrl_model.specs.declared.intercepts.Intercept.{Intercept}
use Rattle.ctrl_model.specs.declared.kinds.Kind.{Kind}
use Rattle.ctrl_model.specs.declared.kinds.Kind.TheVariants as kind
use Rattle.ctrl_model.specs.declared.kinds.Relation.{Relation}
use Rattle.ctrl_model.specs.declared.kinds.Relation.TheVariants.{Dial, Bind, IdentityRouter, ServiceRouter}
use Rattle.ctrl_model.specs.Controller.{counted}
use Rattle.ctrl_model.specs.Grants.{count}
use Rattle.ctrl_model.specs.Hits.{are_intercepts}
use Rattle.ctrl_model.specs.InterceptForm.{is_intercept}
use Rattle.ctrl_model.specs.Limits.{last_serial}
use Rattle.ctrl_model.specs.Numbered.{Table, at, is_present, Between}
use Rattle.ctrl_model.specs.SameStates.{same_state}
use Rattle.ctrl_model.specs.State.{State}
use Rattle.ctrl_model.specs.Tables.{Record, table}
use Rattle.ctrl_model.specs.ValidState.{ValidState, is_valid_intercept}
use Rattle.ctrl_model.proofs.Members.{find_passes, list_all-among, list_all-from_among}
use Rattle.model_laws.specs.Plans.{CanLeadBy, led_by}
use Rattle.model_laws.proofs.CountedLaws.{counted-same, counted-another}
use Rattle.model_laws.proofs.SameStateLaws.{same_state-Decides}
use Rattle.row_codec.specs.declared.changes.Change as row
use Rattle.row_codec.specs.declared.changes.Op.{Op}
use Rattle.row_codec.specs.Batches.{batch_between, batch_of, ops_at, ops_of}
use Rattle.row_codec.specs.CoveredTables.{Covers, LiesIn, change_at}
use Rattle.row_codec.specs.RowDifference.{Entry, said_of, value_at}
use Rattle.row_codec.specs.RowKeys.{RowTable, Key, kinds, kind_number, key_bytes, key_cmp, key_in, table_number, tables_of}
use Rattle.row_codec.specs.RowKeys.RowTable.{Next, Setting, Records, Counts, Intercepts, Serial}
use Rattle.row_codec.specs.RowValues.{record_value, wide}
use Rattle.row_codec.specs.StateRows.{Rows, count_value, next_value, row_at, row_in, rows_of, serial_value}
use Rattle.row_laws.proofs.Covers.{Covers-append, Covers-batch}
use Rattle.row_laws.proofs.Differences.{said_of-same, same_from_difference}
use Rattle.row_laws.proofs.KeyOrders.{key_exact, key_total}
use Rattle.row_laws.proofs.RisingStates.{Rises-rows_of}
use Rattle.row_laws.proofs.RowsAtKeys.{value_at-rows_of}
use Rattle.row_laws.proofs.SpelledValues.{same_wide}
use Rattle.row_laws.proofs.StateBatches.{batch_between-same, same_from_batch}
use Rattle.row_laws.proofs.TouchedKeys.{Covers-serial}
use Rattle.row_laws.proofs.WrittenRows.{IsNumbered-valid}
use Rattle.row_writing.specs.RecordChanges.{serial_change_of}
use Rattle.intercepts.specs.declared.changes.InterceptChange.{InterceptChange}
use Rattle.intercepts.specs.declared.changes.InterceptChange.TheVariants as claim
use Rattle.intercepts.specs.InterceptChanges.{Claims, intercepts_after}
use Rattle.core_stores.specs.declared.changes.Change.{Change}
use Rattle.core_stores.specs.declared.changes.Change.TheVariants as change
use Rattle.core_stores.specs.declared.stores.Stores.{Stores}
use Rattle.core_stores.specs.ChangeParts.{entity_part, intercept_part}
use Rattle.core_stores.specs.Claims.{claim_gone, claim_part, service_gone}
use Rattle.core_stores.specs.Serials.{with_serial}
use Rattle.core_stores.specs.StoredState.{state_of}
use Rattle.core_stores.proofs.SerialLaws.{with_some}
use Rattle.ctrl_core.specs.ChangedStores.{CanSettle, next_state}
use Rattle.ctrl_core.specs.Changes.{CanChange, CanLead, after_change, led}
use Rattle.ctrl_core.specs.declared.plans.Planned.{Planned}
use Rattle.ctrl_core.specs.KeptState.{Cored, Keeps}
use Rattle.ctrl_core.proofs.StateParts.{parts_after}

-- ---- the intercepts after a change

-- what a valid state keeps of services are intercepts
pub claims_are : (s : State) → ValidState s → are_intercepts s.intercepts ≡ true
claims_are s v = list_all-from_among (λ x. is_intercept x.1) s.intercepts (λ x m.
    (and_parts (is_present s.services.rows x.0) (is_intercept x.1) (list_all-among (is_valid_intercept s) s.intercepts x v.intercepts m)).1)

-- the next state has those that the change leaves
pub claims_end : (c : Change) (st : Stores) (o : Option InterceptChange) → CanSettle st c → o ≡ claim_part c → (next_state st c).intercepts ≡ intercepts_after o st.intercepts
claims_end c st o can is = ap (λ (s : State). s.intercepts) (parts_after c st can) ∙ ap (λ p. intercepts_after p st.intercepts) (sym is)

own_claim : (c : Change) (i : InterceptChange) → intercept_part c ≡ Some i → Some i ≡ claim_part c
own_claim (change.Intercept j) i is = sym is
own_claim (change.Entity e) i is = absurd (none-some i is)
own_claim (change.Policy p) i is = absurd (none-some i is)
own_claim (change.Link l) i is = absurd (none-some i is)
own_claim (change.Terminator e) i is = absurd (none-some i is)
own_claim (change.Circuit k) i is = absurd (none-some i is)

claim_along : (c : Change) → intercept_part c ≡ None → claim_gone (entity_part c) ≡ claim_part c
claim_along (change.Intercept i) none = absurd (none-some i (sym none))
claim_along _ none = refl

-- it is found as its own change, or else as that of a service that goes
pub found_claim : (c : Change) (own gone : Option (Bor InterceptChange)) → option_map (λ i. i.now) own ≡ intercept_part c → option_map (λ i. i.now) gone ≡ claim_gone (entity_part c)
    → option_map (λ i. i.now) (option_or own gone) ≡ claim_part c
found_claim c None gone is along = along ∙ claim_along c (sym is)
found_claim c (Some i) gone is along = own_claim c i.now (sym is)

-- what a service gets by it is an intercept
claims_can : (c : Change) (s : State) → CanChange c s → IfSome (claim_part c) Claims
claims_can (change.Intercept i) s can = can
claims_can (change.Entity e) s can = by (service_gone (Some e))
  where
    by : (o : Option ℕ) → IfSome (option_map (λ n. claim.Remove (record { 0 = n })) o) Claims
    by None = tt
    by (Some n) = tt
claims_can _ s can = tt

pub claims_fit : (c : Change) (s : State) (o : Option (Bor InterceptChange)) → CanChange c s → option_map (λ i. i.now) o ≡ claim_part c → IfSome o (λ i. Claims i.now)
claims_fit c s o can is = by o (subst (λ p. IfSome p Claims) (sym is) (claims_can c s can))
  where
    by : (p : Option (Bor InterceptChange)) → IfSome (option_map (λ i. i.now) p) Claims → IfSome p (λ i. Claims i.now)
    by None h = h
    by (Some i) h = h

-- ---- the serial of a state that is counted

-- no change moves the serial by itself
pub led_serial : (o : Option Change) (st : Stores) → Keeps st → CanLeadBy CanChange o (state_of st) → ValidState (led_by after_change o (state_of st))
    → (led_by after_change o (state_of st)).serial ≡ st.serial
led_serial None st keeps can valid = refl
led_serial (Some c) st keeps can valid = ap (λ (s : State). s.serial) (parts_after c st (record { before = keeps.valid; held = keeps.held; can = can; valid = valid }))

-- what holds of the state before, where the next one is the same, and of the next one with the next serial else, holds of it counted
by_counted : (P : State → Type 0) (s t : State) → (s ≡ t → P s) → ((s ≡ t → ⊥) → P (record t { serial = s.serial + 1 })) → P (counted s t)
by_counted P s t same other = by (same_state s t) refl
  where
    by : (b : Bool) → same_state s t ≡ b → P (counted s t)
    by true e = let is = (same_state-Decides s t).0 e in subst P (sym (counted-same s) ∙ ap (counted s) is) (same is)
    by false e =
        let apart : s ≡ t → ⊥ = λ is. true≢false (sym ((same_state-Decides s t).1 is) ∙ e) in
        subst P (sym (counted-another s t apart)) (other apart)

-- the serial stands in no other table
table_stays : (n : ℕ) (s : State) (k : Kind) → table k (record s { serial = n }) ≡ table k s
table_stays n s kind.Attribute = refl
table_stays n s k = refl

count_stays : (n : ℕ) (s : State) (r : Relation) (a b : ℕ) → count r (record s { serial = n }) a b ≡ count r s a b
count_stays n s Dial a b = refl
count_stays n s Bind a b = refl
count_stays n s IdentityRouter a b = refl
count_stays n s ServiceRouter a b = refl

row_stays : (n : ℕ) (s : State) (t : RowTable) (a b : ℕ) → table_number t < 17 → row_in Two t (record s { serial = n }) a b ≡ row_in Two t s a b
row_stays n s Next a b h = λ i. cond (b == 0) (option_and_then (λ k. next_value (table_stays n s k i).next) (find (λ k. kind_number k == a) kinds)) None
row_stays n s Setting a b h = refl
row_stays n s (Records k) a b h = λ i. cond (b == 0) (option_map (record_value k) (at (table_stays n s k i).rows a)) None
row_stays n s (Counts r) a b h = ap (count_value Two) (count_stays n s r a b)
row_stays n s Intercepts a b h = refl
row_stays n s Serial a b h = absurd (omega (arith, h))

row_at-stays : (n : ℕ) (s : State) (q : Key) → q.0 < 17 → row_at Two s q ≡ row_at Two (record s { serial = n }) q
row_at-stays n s q h = by (find (λ t. table_number t == q.0) (tables_of Two)) refl
  where
    by : (o : Option RowTable) → find (λ t. table_number t == q.0) (tables_of Two) ≡ o
        → option_and_then (λ t. row_in Two t s q.1 q.2) o ≡ option_and_then (λ t. row_in Two t (record s { serial = n }) q.1 q.2) o
    by None e = refl
    by (Some t) e =
        let is = eqb-true (table_number t) q.0 (find_passes (λ t. table_number t == q.0) (tables_of Two) t e) in
        sym (row_stays n s t q.1 q.2 (subst (λ m. m < 17) (sym is) h))

-- what covers tables in which the end of two has the same rows covers them
covers_to : (low high : ℕ) (s t u : State) (changes : List row.Change) → ((q : Key) → LiesIn low high q → row_at Two t q ≡ row_at Two u q) → Covers Two low high s t changes
    → Covers Two low high s u changes
covers_to low high s t u changes same c = record {
  keys = c.keys;
  named = c.named ∙ by c.keys c.within;
  rises = c.rises;
  fits = c.fits;
  within = c.within;
  others = λ q l misses. c.others q l misses ∙ same q l;
}
  where
    by : (keys : List Key) → AllByRecursion (LiesIn low high) keys → map (change_at Two s t) keys ≡ map (change_at Two s u) keys
    by [] a = refl
    by (k ∷ ks) a = λ i. record { key = key_bytes k; before = row_at Two s k; after = same k a.0 i } ∷ by ks a.1 i

-- changes of all tables but that of the serial, with the change of the serial behind them
covered_counted : (n : ℕ) (s t : State) (changes : List row.Change) → ValidState s → ValidState t → Covers Two 1 17 s t changes
    → batch_of (changes ++ serial_change_of s.serial n ∷ []) ≡ batch_between Two s (record t { serial = n })
covered_counted n s t changes v w covers =
    let u = record t { serial = n } in
    Covers-batch Two s u (changes ++ serial_change_of s.serial n ∷ []) (IsNumbered-valid s v) (λ k. subst (λ (x : Table (Record k)). Between 1 x.next x.rows) (sym (table_stays n t k)) (IsNumbered-valid t w k))
    v.ordered w.ordered
    (Covers-append Two 1 17 18 s u changes (serial_change_of s.serial n ∷ []) (omega arith) (omega arith)
    (covers_to 1 17 s t u changes (λ q l. row_at-stays n t q l.1) covers) (Covers-serial s u))

-- the batch of these changes, with the put of the serial where it changes something, is that to the state counted
pub counted_batch : (s t : State) (changes : List row.Change) → ValidState s → ValidState t → t.serial ≡ s.serial → Covers Two 1 17 s t changes
    → with_serial s.serial (batch_of changes) ≡ batch_between Two s (counted s t)
counted_batch s t changes v w serial covers = by_counted (λ u. with_serial s.serial (batch_of changes) ≡ batch_between Two s u) s t same other
  where
    -- the serial that stays has a change that changes nothing
    stays : batch_of (serial_change_of s.serial s.serial ∷ []) ≡ []
    stays = ap (λ o. ops_at (key_bytes (key_in Serial 0 0)) o ++ []) (said_of-same (serial_value s.serial))

    all : batch_of changes ≡ batch_between Two s t
    all =
        sym (flat_map-append (λ (c : row.Change). ops_at c.key (said_of c.before c.after)) changes (serial_change_of s.serial s.serial ∷ []) ∙ ap (λ (ops : List Op). batch_of changes ++ ops) stays ∙ append-nil (batch_of changes))
        ∙ covered_counted s.serial s t changes v w covers ∙ ap (λ n. batch_between Two s (record t { serial = n })) (sym serial)

    same : s ≡ t → with_serial s.serial (batch_of changes) ≡ batch_between Two s s
    same e =
        let none : batch_between Two s s ≡ [] = batch_between-same Two s v in
        ap (with_serial s.serial) (all ∙ ap (batch_between Two s) (sym e) ∙ none) ∙ sym none

    other : (s ≡ t → ⊥) → with_serial s.serial (batch_of changes) ≡ batch_between Two s (record t { serial = s.serial + 1 })
    other apart =
        with_some s.serial (batch_of changes) (λ none. apart (same_from_batch Two s t v w tt tt (sym all ∙ none)))
        ∙ sym (flat_map-append (λ (c : row.Change). ops_at c.key (said_of c.before c.after)) changes (serial_change_of s.serial (s.serial + 1) ∷ []))
        ∙ covered_counted (s.serial + 1) s t changes v w covers

-- ---- a state counted, as its batch tells it

-- a batch that raises the serial changes something
raise_shows : (s t : State) → ValidState s → ValidState t → batch_between Two s (record t { serial = s.serial + 1 }) ≡ [] → ⊥
raise_shows s t v w none =
    let m = s.serial in
    let upto = v.counted in
    let same = ap (λ (rows : Rows). value_at key_cmp rows (17, 0, 0)) (same_from_difference key_total key_exact (rows_of Two s) (rows_of Two (record t { serial = m + 1 }))
    (Rises-rows_of Two s (IsNumbered-valid s v) v.ordered)
    (Rises-rows_of Two (record t { serial = m + 1 }) (λ k. subst (λ (x : Table (Record k)). Between 1 x.next x.rows) (sym (table_stays (m + 1) t k)) (IsNumbered-valid t w k)) w.ordered)
    (no_ops _ none)) in
    apart m upto (sym (value_at-rows_of Two s (17, 0, 0)) ∙ same ∙ value_at-rows_of Two (record t { serial = m + 1 }) (17, 0, 0))
  where
    no_ops : (entries : List (Entry Key)) → ops_of entries ≡ [] → entries ≡ []
    no_ops [] e = refl
    no_ops (x ∷ xs) e = absurd (cc)

    apart : (m : ℕ) → m ≤ last_serial → serial_value m ≡ serial_value (m + 1) → ⊥
    apart m upto e = by (nat_lt 0 m) (nat_lt 0 (m + 1)) refl refl e
      where
        by : (c d : Bool) → nat_lt 0 m ≡ c → nat_lt 0 (m + 1) ≡ d → cond c (Some (wide m)) None ≡ cond d (Some (wide (m + 1))) None → ⊥
        by true true p q f =
            let is = same_wide m (m + 1) (omega (arith, upto)) (omega (arith, upto)) (same_Some (wide m) (wide (m + 1)) f) in
            absurd (omega (arith, is))
        by c false p q f = let none = ltb-false 0 (m + 1) q in absurd (omega (arith, none))
        by false true p q f = none-some (wide (m + 1)) f

-- where the batch is empty the state counted is the next one, and where it is not, that with the next serial
pub still_counted : (s t : State) → ValidState s → ValidState t → batch_between Two s (counted s t) ≡ [] → counted s t ≡ t
still_counted s t v w =
    by_counted (λ u. batch_between Two s u ≡ [] → u ≡ t) s t (λ e none. e) (λ apart none. absurd (raise_shows s t v w none))

pub raised_counted : (s t : State) → ValidState s → t.serial ≡ s.serial → (batch_between Two s (counted s t) ≡ [] → ⊥) → counted s t ≡ record t { serial = t.serial + 1 }
raised_counted s t v serial =
    by_counted (λ u. (batch_between Two s u ≡ [] → ⊥) → u ≡ record t { serial = t.serial + 1 }) s t
    (λ e some. absurd (some (batch_between-same Two s v))) (λ apart some i. record t { serial = sym serial i + 1 })

-- so it is of the state to which a plan leads
still_led : (p : Planned) (s : State) → ValidState s → CanLead p s → p.batch ≡ [] → counted s (led p s) ≡ led p s
still_led p s v can none = still_counted s (led p s) v can.valid (sym can.batch ∙ none)

raised_led : (p : Planned) (s : State) → ValidState s → (led p s).serial ≡ s.serial → CanLead p s → (p.batch ≡ [] → ⊥) → counted s (led p s) ≡ record (led p s) { serial = (led p s).serial + 1 }
raised_led p s v serial can some = raised_counted s (led p s) v serial (λ none. some (can.batch ∙ none))

-- and of the core that is led there
pub still_next : (p : Planned) (s : State) (mid : Cored) → ValidState s → CanLead p s → p.batch ≡ [] → mid ≡ record { state = led p s; live = true }
    → mid ≡ record { state = counted s (led p s); live = true }
still_next p s mid v can none is = is ∙ (λ i. record { state = sym (still_led p s v can none) i; live = true })

pub raised_next : (p : Planned) (s : State) (mid next : Cored) → ValidState s → (led p s).serial ≡ s.serial → CanLead p s → (p.batch ≡ [] → ⊥) → mid ≡ record { state = led p s; live = true }
    → next ≡ record { state = record mid.state { serial = mid.state.serial + 1 }; live = true } → next ≡ record { state = counted s (led p s); live = true }
raised_next p s mid next v serial can some is then =
    then ∙ (λ i. record { state = record (is i).state { serial = (is i).state.serial + 1 }; live = true })
    ∙ (λ i. record { state = sym (raised_led p s v serial can some) i; live = true })
