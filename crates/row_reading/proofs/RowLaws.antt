-- Rows: what is written is read again, what is read is what was written, and a key and a value spell one row.
use Rattle.std.proofs.Common.{◌≡◌, ℕ, suc, Bool, true, false, ◌&&◌, ◌==◌, List, [], ◌∷◌, Option, Some, None, refl, sym, ap, subst, ◌∙◌}
use Rattle.std.specs.Prelude.{Ok, Err, IfOk, IsErrOf, ◌↔◌}
use Rattle.std.specs.declared.result.Result.{Result}
use Rattle.row_codec.specs.declared.faults.RowFault.{RowFault}
use Rattle.row_codec.specs.declared.faults.RowFault.TheVariants as faults
use Rattle.std.specs.Option.{option_map, is_some}
use Rattle.std.proofs.lemmas.Bool.{eqb-true}
use Rattle.ctrl_model.proofs.Members.{find_passes}
use Rattle.ctrl_model.specs.declared.formats.Format.{Format}
use Rattle.ctrl_model.specs.declared.formats.Format.TheVariants.{One, Two}
use Rattle.ctrl_model.specs.declared.kinds.Kind.{Kind}
use Rattle.ctrl_model.specs.declared.kinds.Kind.TheVariants as kind
use Rattle.ctrl_model.specs.declared.kinds.Relation.{Relation}
use Rattle.ctrl_model.specs.declared.kinds.Relation.TheVariants as relation
use Rattle.ctrl_model.specs.declared.numbering.IdentityNo.{IdentityNo}
use Rattle.row_codec.specs.declared.rows.Row.{Row}
use Rattle.row_codec.specs.declared.rows.Row.TheVariants as row
use Rattle.row_codec.specs.RowForm.{is_row, key_of, value_of, SpellsRow, is_count}
use Rattle.row_codec.specs.RowKeys.{RowTable, is_long, key_bytes, table_number, tables_of}
use Rattle.row_codec.specs.RowKeys.RowTable.{Next, Setting, Records, Counts, Intercepts, Serial}
use Rattle.row_codec.specs.FieldReading.{Front, front_number, alone}
use Rattle.row_reading.specs.RowReading.{row_read, count_read, record_read, table_read, row_table_of, row_of, Fails, Gives}
use Rattle.row_codec.proofs.FieldLaws.{AreBytes, some_is, bind_some, map_some, and_left, and_right}
use Rattle.row_reading.proofs.FormLaws.{IsForm, and_both, and_regrouped, alone_again, alone_takes}
use Rattle.row_reading.proofs.ValueLaws.{number_form, entity_form, router_form, link_form, service_policy_form, router_policy_form, terminator_form, circuit_form, count_form, intercept_form, serial_form, next_form, setting_form, kind_form, nothing_form, pair_form}

-- ---- one table

read_again : {K V : Type 0} (f : List ℕ → Front K) (s : K → List ℕ) (p : K → Bool) (g : List ℕ → Front V) (t : V → List ℕ) (q : V → Bool) → IsForm f s p → IsForm g t q
    → (make : K → V → Row) (k : K) (v : V) → (p k && q v) ≡ true → row_read f g make (s k) (t v) ≡ Some (make k v)
read_again f s p g t q F G make k v e = rw (alone_again f s p F k (and_left (p k) (q v) e), alone_again g t q G v (and_right (p k) (q v) e)) refl

-- what makes the rows of a table from the parts of a key and a value
pub record MakesRows {K V : Type 0} (f : Format) (number : ℕ) (s : K → List ℕ) (p : K → Bool) (t : V → List ℕ) (q : V → Bool) (make : K → V → Row) : Type 0 where
  pub form : (k : K) (v : V) → is_row f (make k v) ≡ (p k && q v)
  pub key_is : (k : K) (v : V) → key_bytes (key_of (make k v)) ≡ number ∷ s k
  pub value_is : (k : K) (v : V) → value_of f (make k v) ≡ t v

read_takes : {K V : Type 0} (h : Format) (f : List ℕ → Front K) (s : K → List ℕ) (p : K → Bool) (g : List ℕ → Front V) (t : V → List ℕ) (q : V → Bool) → IsForm f s p → IsForm g t q
    → (make : K → V → Row) (number : ℕ) → MakesRows h number s p t q make
    → (rest value : List ℕ) (r : Row) → AreBytes rest → AreBytes value → row_read f g make rest value ≡ Some r → SpellsRow h (number ∷ rest) value r
read_takes h f s p g t q F G make number makes rest value r rest_fits value_fits e =
    let k = bind_some (alone f rest) (λ k. option_map (λ v. make k v) (alone g value)) r e in
    let v = map_some (alone g value) (λ v. make k.0 v) r k.2 in
    let key = alone_takes f s p F rest k.0 rest_fits k.1 in
    let val = alone_takes g t q G value v.0 value_fits v.1 in
    subst (λ (x : Row). SpellsRow h (number ∷ rest) value x) v.2
    (record {
      form = makes.form k.0 v.0 ∙ and_both (p k.0) (q v.0) key.1 val.1;
      key_is = ap (λ (xs : List ℕ). number ∷ xs) key.0 ∙ sym (makes.key_is k.0 v.0);
      value_is = val.0 ∙ sym (makes.value_is k.0 v.0);
    })

-- ---- what is read is spelled so

host_back : (o : Option ℕ) → option_map (λ (h : IdentityNo). h.0) (option_map (λ n. record { 0 = n }) o) ≡ o
host_back None = refl
host_back (Some n) = refl

record_takes : (f : Format) (k : Kind) (rest value : List ℕ) (r : Row) → AreBytes rest → AreBytes value → record_read k rest value ≡ Some r → SpellsRow f (table_number (Records k) ∷ rest) value r
record_takes f kind.Identity rest value r fk fv e =
    read_takes f _ _ _ _ _ _ number_form entity_form _ 3 (record { form = λ k v. refl; key_is = λ k v. refl; value_is = λ k v. refl }) rest value r fk fv e
record_takes f kind.Service rest value r fk fv e =
    read_takes f _ _ _ _ _ _ number_form entity_form _ 4 (record { form = λ k v. refl; key_is = λ k v. refl; value_is = λ k v. refl }) rest value r fk fv e
record_takes f kind.Router rest value r fk fv e =
    read_takes f _ _ _ _ _ _ number_form router_form _ 5 (record { form = λ k v. refl; key_is = λ k v. refl; value_is = λ k v. refl }) rest value r fk fv e
record_takes f kind.Link rest value r fk fv e =
    read_takes f _ _ _ _ _ _ number_form link_form _ 6 (record { form = λ k v. refl; key_is = λ k v. refl; value_is = λ k v. refl }) rest value r fk fv e
record_takes f kind.ServicePolicy rest value r fk fv e =
    read_takes f _ _ _ _ _ _ number_form service_policy_form _ 7 (record { form = λ k v. refl; key_is = λ k v. refl; value_is = λ k v. refl }) rest value r fk fv e
record_takes f kind.EdgeRouterPolicy rest value r fk fv e =
    read_takes f _ _ _ _ _ _ number_form router_policy_form _ 8 (record { form = λ k v. refl; key_is = λ k v. refl; value_is = λ k v. refl }) rest value r fk fv e
record_takes f kind.ServiceEdgeRouterPolicy rest value r fk fv e =
    read_takes f _ _ _ _ _ _ number_form router_policy_form _ 9 (record { form = λ k v. refl; key_is = λ k v. refl; value_is = λ k v. refl }) rest value r fk fv e
record_takes f kind.Terminator rest value r fk fv e =
    read_takes f _ _ _ _ _ _ number_form terminator_form _ 10
    (record { form = λ k v. rw (host_back v.1.1.0) refl; key_is = λ k v. refl; value_is = λ k v. rw (host_back v.1.1.0) refl }) rest value r fk fv e
record_takes f kind.Circuit rest value r fk fv e =
    read_takes f _ _ _ _ _ _ number_form circuit_form _ 11 (record { form = λ k v. refl; key_is = λ k v. refl; value_is = λ k v. refl }) rest value r fk fv e
record_takes f kind.Attribute rest value r fk fv e = absurd cc

count_takes : (f : Format) (c : Relation) (rest value : List ℕ) (r : Row) → AreBytes rest → AreBytes value → count_read f c rest value ≡ Some r → SpellsRow f (table_number (Counts c) ∷ rest) value r
count_takes f relation.Dial rest value r fk fv e =
    read_takes f _ _ _ _ _ _ pair_form (count_form f) _ 12 (record { form = λ k v. and_regrouped (is_long k.0) (is_long k.1) (is_count f v); key_is = λ k v. refl; value_is = λ k v. refl }) rest value r fk fv e
count_takes f relation.Bind rest value r fk fv e =
    read_takes f _ _ _ _ _ _ pair_form (count_form f) _ 13 (record { form = λ k v. and_regrouped (is_long k.0) (is_long k.1) (is_count f v); key_is = λ k v. refl; value_is = λ k v. refl }) rest value r fk fv e
count_takes f relation.IdentityRouter rest value r fk fv e =
    read_takes f _ _ _ _ _ _ pair_form (count_form f) _ 14 (record { form = λ k v. and_regrouped (is_long k.0) (is_long k.1) (is_count f v); key_is = λ k v. refl; value_is = λ k v. refl }) rest value r fk fv e
count_takes f relation.ServiceRouter rest value r fk fv e =
    read_takes f _ _ _ _ _ _ pair_form (count_form f) _ 15 (record { form = λ k v. and_regrouped (is_long k.0) (is_long k.1) (is_count f v); key_is = λ k v. refl; value_is = λ k v. refl }) rest value r fk fv e

table_takes : (f : Format) (t : RowTable) (rest value : List ℕ) (r : Row) → AreBytes rest → AreBytes value → table_read f t rest value ≡ Some r → SpellsRow f (table_number t ∷ rest) value r
table_takes f Next rest value r fk fv e =
    read_takes f _ _ _ _ _ _ kind_form next_form _ 1 (record { form = λ k v. refl; key_is = λ k v. refl; value_is = λ k v. refl }) rest value r fk fv e
table_takes f Setting rest value r fk fv e =
    read_takes f _ _ _ _ _ _ nothing_form setting_form _ 2 (record { form = λ k v. refl; key_is = λ k v. refl; value_is = λ k v. refl }) rest value r fk fv e
table_takes f (Records k) rest value r fk fv e = record_takes f k rest value r fk fv e
table_takes f (Counts c) rest value r fk fv e = count_takes f c rest value r fk fv e
table_takes One Intercepts rest value r fk fv e = absurd cc
table_takes Two Intercepts rest value r fk fv e =
    read_takes Two _ _ _ _ _ _ number_form intercept_form _ 16 (record { form = λ k v. refl; key_is = λ k v. refl; value_is = λ k v. refl }) rest value r fk fv e
table_takes One Serial rest value r fk fv e = absurd cc
table_takes Two Serial rest value r fk fv e =
    read_takes Two _ _ _ _ _ _ nothing_form serial_form _ 17 (record { form = λ k v. refl; key_is = λ k v. refl; value_is = λ k v. refl }) rest value r fk fv e

pub row_takes : (f : Format) (key value : List ℕ) (r : Row) → AreBytes key → AreBytes value → row_of f key value ≡ Some r → SpellsRow f key value r
row_takes f [] value r fk fv e = absurd cc
row_takes f (number ∷ rest) value r fk fv e =
    let t = bind_some (row_table_of number) (λ t. table_read f t rest value) r e in
    let is : table_number t.0 ≡ number = eqb-true (table_number t.0) number (find_passes (λ t. table_number t == number) (tables_of Two) t.0 t.1) in
    subst (λ (n : ℕ). SpellsRow f (n ∷ rest) value r) is (table_takes f t.0 rest value r (λ i. fk (suc i)) fv t.2)

-- ---- what is spelled is read

host_wrapped : (host : Option IdentityNo) → option_map (λ n. record { 0 = n }) (option_map (λ (h : IdentityNo). h.0) host) ≡ host
host_wrapped None = refl
host_wrapped (Some h) = refl

row_again_from : (f : Format) (r : Row) → is_row f r ≡ true → row_of f (key_bytes (key_of r)) (value_of f r) ≡ Some r
row_again_from f (row.Next k next) e =
    read_again _ _ _ _ _ _ kind_form next_form (λ k n. row.Next k n) k next e
row_again_from f (row.Setting cost) e =
    read_again _ _ _ _ _ _ nothing_form setting_form (λ u n. row.Setting n) tt cost e
row_again_from f (row.Identity n name attributes) e =
    read_again _ _ _ _ _ _ number_form entity_form (λ n v. row.Identity (record { 0 = n }) v.0 v.1) n.0 (name, attributes) e
row_again_from f (row.Service n name attributes) e =
    read_again _ _ _ _ _ _ number_form entity_form (λ n v. row.Service (record { 0 = n }) v.0 v.1) n.0 (name, attributes) e
row_again_from f (row.Router n name attributes cost through connected) e =
    read_again _ _ _ _ _ _ number_form router_form (λ n v. row.Router (record { 0 = n }) v.0 v.1.0 v.1.1.0 v.1.1.1.0 v.1.1.1.1) n.0 (name, (attributes, (cost, (through, connected)))) e
row_again_from f (row.Link n name a b cost latency_a latency_b up) e =
    read_again _ _ _ _ _ _ number_form link_form (λ n v. row.Link (record { 0 = n }) v.0 (record { 0 = v.1.0 }) (record { 0 = v.1.1.0 }) v.1.1.1.0 v.1.1.1.1.0 v.1.1.1.1.1.0 v.1.1.1.1.1.1) n.0 (name, (a.0, (b.0, (cost, (latency_a, (latency_b, up)))))) e
row_again_from f (row.ServicePolicy n name rel semantic identities services) e =
    read_again _ _ _ _ _ _ number_form service_policy_form (λ n v. row.ServicePolicy (record { 0 = n }) v.0 v.1.0 v.1.1.0 v.1.1.1.0 v.1.1.1.1) n.0 (name, (rel, (semantic, (identities, services)))) e
row_again_from f (row.EdgeRouterPolicy n name semantic identities routers) e =
    read_again _ _ _ _ _ _ number_form router_policy_form (λ n v. row.EdgeRouterPolicy (record { 0 = n }) v.0 v.1.0 v.1.1.0 v.1.1.1) n.0 (name, (semantic, (identities, routers))) e
row_again_from f (row.ServiceEdgeRouterPolicy n name semantic services routers) e =
    read_again _ _ _ _ _ _ number_form router_policy_form (λ n v. row.ServiceEdgeRouterPolicy (record { 0 = n }) v.0 v.1.0 v.1.1.0 v.1.1.1) n.0 (name, (semantic, (services, routers))) e
row_again_from f (row.Terminator n service router host instance cost precedence) e =
    read_again _ _ _ _ _ _ number_form terminator_form
    (λ n v. row.Terminator (record { 0 = n }) (record { 0 = v.0 }) (record { 0 = v.1.0 }) (option_map (λ h. record { 0 = h }) v.1.1.0) v.1.1.1.0 v.1.1.1.1.0 v.1.1.1.1.1)
    n.0 (service.0, (router.0, (option_map (λ h. h.0) host, (instance, (cost, precedence))))) e
    ∙ ap (λ (h : Option IdentityNo). Some (row.Terminator n service router h instance cost precedence)) (host_wrapped host)
row_again_from f (row.Circuit n identity service terminator ingress links) e =
    read_again _ _ _ _ _ _ number_form circuit_form (λ n v. row.Circuit (record { 0 = n }) (record { 0 = v.0 }) (record { 0 = v.1.0 }) (record { 0 = v.1.1.0 }) (record { 0 = v.1.1.1.0 }) v.1.1.1.1) n.0 (identity.0, (service.0, (terminator.0, (ingress.0, links)))) e
row_again_from f (row.Dial identity service count) e =
    read_again _ _ _ _ _ _ pair_form (count_form f) (λ k n. row.Dial (record { 0 = k.0 }) (record { 0 = k.1 }) n) (identity.0, service.0) count (sym (and_regrouped (is_long identity.0) (is_long service.0) (is_count f count)) ∙ e)
row_again_from f (row.Bind identity service count) e =
    read_again _ _ _ _ _ _ pair_form (count_form f) (λ k n. row.Bind (record { 0 = k.0 }) (record { 0 = k.1 }) n) (identity.0, service.0) count (sym (and_regrouped (is_long identity.0) (is_long service.0) (is_count f count)) ∙ e)
row_again_from f (row.IdentityRouter identity router count) e =
    read_again _ _ _ _ _ _ pair_form (count_form f) (λ k n. row.IdentityRouter (record { 0 = k.0 }) (record { 0 = k.1 }) n) (identity.0, router.0) count (sym (and_regrouped (is_long identity.0) (is_long router.0) (is_count f count)) ∙ e)
row_again_from f (row.ServiceRouter service router count) e =
    read_again _ _ _ _ _ _ pair_form (count_form f) (λ k n. row.ServiceRouter (record { 0 = k.0 }) (record { 0 = k.1 }) n) (service.0, router.0) count (sym (and_regrouped (is_long service.0) (is_long router.0) (is_count f count)) ∙ e)
row_again_from One (row.Intercept service intercept) e = absurd cc
row_again_from Two (row.Intercept service intercept) e =
    read_again _ _ _ _ _ _ number_form intercept_form (λ n i. row.Intercept (record { 0 = n }) i) service.0 intercept e
row_again_from One (row.Serial serial) e = absurd cc
row_again_from Two (row.Serial serial) e =
    read_again _ _ _ _ _ _ nothing_form serial_form (λ u n. row.Serial n) tt serial e

pub row_again : (f : Format) (key value : List ℕ) (r : Row) → SpellsRow f key value r → row_of f key value ≡ Some r
row_again f key value r s = rw (s.key_is, s.value_is) (row_again_from f r s.form)

-- a key and a value spell at most one row
pub one_row : (f : Format) (key value : List ℕ) (a b : Row) → SpellsRow f key value a → SpellsRow f key value b → a ≡ b
one_row f key value a b s t = some_is a b (sym (row_again f key value a s) ∙ row_again f key value b t)

-- ---- what a reader of rows answers

by_some : {A P : Type 0} (o : Option A) → is_some o ≡ true → ((x : A) → o ≡ Some x → P) → P
by_some (Some x) e k = k x refl
by_some None e k = absurd cc

pub none_spelled : (f : Format) (key value : List ℕ) → is_some (row_of f key value) ≡ false → (r : Row) → SpellsRow f key value r → ⊥
none_spelled f key value e r s =
    let both : true ≡ false = ap is_some (sym (row_again f key value r s)) ∙ e in
    cc

-- where a row is there, bytes spell one
some_spelled : (f : Format) (key value : List ℕ) → AreBytes key → AreBytes value → is_some (row_of f key value) ≡ true → ((r : Row) → SpellsRow f key value r → ⊥) → ⊥
some_spelled f key value fk fv e none = by_some (row_of f key value) e (λ r is. none r (row_takes f key value r fk fv is))

-- what is answered
pub record ReadsRow (f : Format) (key value : List ℕ) (result : Result Row RowFault) : Type 0 where
  pub read : IfOk result (λ r. SpellsRow f key value r)
  pub bad : IsErrOf result faults.BadRow ↔ ((r : Row) → SpellsRow f key value r → ⊥)
  pub never : IsErrOf result faults.BadBatch → ⊥
  pub memory : IsErrOf result faults.NoMemory → (r : Row) × SpellsRow f key value r

pub reads_row : (f : Format) (key value : List ℕ) (result : Result Row RowFault) → AreBytes key → AreBytes value → Gives (λ r. r) result (row_of f key value) → ReadsRow f key value result
reads_row f key value (Ok r) fk fv gives = record {
  read = row_takes f key value r fk fv gives;
  bad = (λ h. absurd cc, λ none. absurd (none r (row_takes f key value r fk fv gives)));
  never = λ h. cc;
  memory = λ h. absurd cc;
}
reads_row f key value (Err faults.BadRow) fk fv gives = record {
  read = tt;
  bad = (λ h. none_spelled f key value (ap is_some gives), λ none. refl);
  never = λ h. cc;
  memory = λ h. absurd cc;
}
reads_row f key value (Err faults.BadBatch) fk fv gives = absurd gives
reads_row f key value (Err faults.NoMemory) fk fv gives = record {
  read = tt;
  bad = (λ h. absurd cc, λ none. absurd (some_spelled f key value fk fv gives none));
  never = λ h. cc;
  memory = λ h. by_some (row_of f key value) gives (λ r is. (r, row_takes f key value r fk fv is));
}

-- ---- a fault of a value is one of its row

is_some-made : {V : Type 0} (make : V → Row) (o : Option V) → is_some o ≡ true → is_some (option_map make o) ≡ true
is_some-made make (Some v) e = refl
is_some-made make None e = absurd cc

pub fails_too : {V : Type 0} (fault : RowFault) (g : List ℕ → Front V) (make : ℕ → V → Row) (rest value : List ℕ) (n : ℕ)
    → alone front_number rest ≡ Some n → Fails fault (alone g value) → Fails fault (row_read front_number g make rest value)
fails_too faults.BadRow g make rest value n e h = rw (e, h) refl
fails_too faults.BadBatch g make rest value n e h = h
fails_too faults.NoMemory g make rest value n e h = rw e (is_some-made (λ v. make n v) (alone g value) h)
