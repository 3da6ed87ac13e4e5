-- What each kind of change has to show to keep a state valid: adding a record, changing one, removing one.
use Rattle.std.proofs.Common.{◌≡◌, ◌⊎◌, ⊎_elim, inl, inr, ℕ, ◌<◌, ◌≤◌, ◌==◌, Bool, cond, ◌∷◌, is_some, true, false, not, List, [], ◌++◌, flat_map, length, Option, None, Some, refl, sym, ◌∙◌, ap, subst, arith, ltb-true, ltb-false}
use Rattle.std.proofs.lemmas.Bool.{false≢true, false_from_ne_true, and_parts, and_from, both_ways, not-true, eq-eqb}
use Rattle.std.specs.List.{list_all}
use Rattle.std.specs.Option.{option_map}
use Rattle.std.specs.Set.{distinct_count}
use Rattle.std.specs.Str.{bytes_eq}
use Rattle.ctrl_model.specs.declared.kinds.Kind.{Kind}
use Rattle.ctrl_model.specs.declared.kinds.Kind.TheVariants as kind
use Rattle.ctrl_model.specs.declared.refusals.Refusal.{Refusal}
use Rattle.ctrl_model.specs.declared.replies.Reply.{Reply}
use Rattle.ctrl_model.specs.InterceptForm.{is_intercept}
use Rattle.ctrl_model.specs.Limits.{limit, last_next, last_serial}
use Rattle.ctrl_model.specs.Networks.{network_of}
use Rattle.ctrl_model.specs.Numbered.{Table, at, is_present, with_last, without, with_new, with_edit, with_removed, first_where, Between}
use Rattle.ctrl_model.specs.State.{State, Entity}
use Rattle.ctrl_model.specs.Tables.{Record, table, with_table, is_entity_kind, has_names, record_name, named}
use Rattle.ctrl_model.specs.ValueForms.{is_link_cost}
use Rattle.ctrl_model.specs.Settling.{settle, revoke, repair, granted_in, link_stays, terminator_stays, stays_in, rerouted, settle_links, settle_terminators, reroute_circuits}
use Rattle.ctrl_model.specs.Rules.{carried_out, at_number, attributes_full, attributes_in_use, side_attributes, forget_left, forget_right}
use Rattle.ctrl_model.specs.RecordCommands.{after_create, after_edit, after_remove, forgotten, without_intercept}
use Rattle.ctrl_model.specs.ValidState.{ValidState, ValidTable, is_valid, is_valid_intercept, may_relate}
use Rattle.ctrl_model.proofs.DistinctLaws.{Includes, Includes-append, Includes-filter, Includes-map, distinct_count-Includes}
use Rattle.model_laws.proofs.KindLaws.{with_table-holds, with_table-setting, with_table-intercepts, with_table-serial}
use Rattle.ctrl_model.proofs.Members.{list_all-among, list_all-from_among}
use Rattle.ctrl_model.proofs.NumberedLaws.{at-edit_at, at-without-other, Between-more, Between-without}
use Rattle.ctrl_model.proofs.TableLaws.{list_all-filter, valid-none, valid-more, valid-new, valid-filter, valid-each, valid-edit}
use Rattle.model_laws.proofs.NamedLaws.{FindsToo, FindsOthers, with_last-finds, edit_at-finds, without-finds, is_fitting-more, is_fitting-forget_left, is_fitting-forget_right}
use Rattle.model_laws.proofs.SettleLaws.{repair-repair}
use Rattle.model_laws.proofs.RefusalLaws.{carried_out-holds, at_number-holds}

-- ---- intercepts and the serial

-- the intercepts of a state ascend by their services and are valid, and its serial has an end
pub record AreClaimed (s : State) : Type 0 where
  pub ordered : Between 1 s.services.next s.intercepts
  pub intercepts : list_all (is_valid_intercept s) s.intercepts ≡ true
  pub counted : s.serial ≤ last_serial

-- a table keeps what another has: its next number is no lower, and no record of the other is gone
pub record Keeps {R : Type 0} (t u : Table R) : Type 0 where
  pub next : t.next ≤ u.next
  pub present : (n : ℕ) → is_present t.rows n ≡ true → is_present u.rows n ≡ true

pub Keeps-itself : {R : Type 0} (t : Table R) → Keeps t t
Keeps-itself t = record { next = omega arith; present = λ n e. e }

present-with_last : {R : Type 0} (xs : List (ℕ × R)) (m : ℕ) (r : R) (n : ℕ) → is_present xs n ≡ true → is_present (with_last xs m r) n ≡ true
present-with_last [] m r n e = absurd (false≢true e)
present-with_last (x ∷ xs) m r n e = by (x.0 == n) e (present-with_last xs m r n)
  where
    by : (b : Bool) → is_some (cond b (Some x.1) (at xs n)) ≡ true → (is_present xs n ≡ true → is_present (with_last xs m r) n ≡ true)
        → is_some (cond b (Some x.1) (at (with_last xs m r) n)) ≡ true
    by true e h = refl
    by false e h = h e

Keeps-new : {R : Type 0} (r : R) (t : Table R) → Keeps t (with_new r t)
Keeps-new r t = record { next = omega arith; present = present-with_last t.rows t.next r }

Keeps-edit : {R : Type 0} (n : ℕ) (f : R → R) (t : Table R) → Keeps t (with_edit n f t)
Keeps-edit n f t = record {
  next = omega arith;
  present = λ m e. ap is_some (at-edit_at t.rows n m f) ∙ by m (at t.rows m) e;
}
  where
    by : (m : ℕ) (o : Option _) → is_some o ≡ true → is_some (option_map (λ r. cond (m == n) (f r) r) o) ≡ true
    by m None e = e
    by m (Some r) e = refl

-- intercepts stay valid where the services are kept
pub claims_more : (s t : State) → t.intercepts ≡ s.intercepts → t.serial ≡ s.serial → Keeps s.services t.services → AreClaimed s → AreClaimed t
claims_more s t same number k c = record {
  ordered = subst (λ xs. Between 1 t.services.next xs) (sym same) (Between-more s.services.next s.intercepts 1 1 t.services.next (omega arith) k.next c.ordered);
  intercepts = subst (λ xs. list_all (is_valid_intercept t) xs ≡ true) (sym same)
      (list_all-from_among (is_valid_intercept t) s.intercepts (λ x m.
      let both = and_parts (is_present s.services.rows x.0) (is_intercept x.1) (list_all-among (is_valid_intercept s) s.intercepts x c.intercepts m) in
      and_from (is_present t.services.rows x.0) (is_intercept x.1) (k.present x.0 both.0) both.1));
  counted = subst (λ n. n ≤ last_serial) (sym number) c.counted;
}

-- of a service that is removed the intercept goes too
claims_without : (n : ℕ) (s t : State) → t.intercepts ≡ without s.intercepts n → t.serial ≡ s.serial → t.services ≡ with_removed n s.services → AreClaimed s → AreClaimed t
claims_without n s t gone number services c = record {
  ordered = subst (λ (u : Table Entity). Between 1 u.next t.intercepts) (sym services)
      (subst (λ xs. Between 1 s.services.next xs) (sym gone) (Between-without s.services.next s.intercepts 1 n c.ordered));
  intercepts = subst (λ xs. list_all (is_valid_intercept t) xs ≡ true) (sym gone)
      (list_all-filter (λ x. not (x.0 == n)) (is_valid_intercept s) (is_valid_intercept t) (λ x other valid.
      let both = and_parts (is_present s.services.rows x.0) (is_intercept x.1) valid in
      and_from (is_present t.services.rows x.0) (is_intercept x.1)
      (ap (λ (u : Table Entity). is_present u.rows x.0) services
      ∙ ap is_some (at-without-other s.services.rows n x.0 (λ same. both_ways (x.0 == n) (not-true (x.0 == n) other) (eq-eqb x.0 n same))) ∙ both.0) both.1) s.intercepts c.intercepts);
  counted = subst (λ m. m ≤ last_serial) (sym number) c.counted;
}

-- ---- all of a valid state but that repairing changes nothing

pub record Orderly (s : State) : Type 0 where
  pub kinds : (k : Kind) → ValidTable k s (table k s)
  pub setting : is_link_cost s.least_router_cost ≡ true
  pub attributes : attributes_full s ≡ false
  pub claims : AreClaimed s

pub AreClaimed-from_valid : (s : State) → ValidState s → AreClaimed s
AreClaimed-from_valid s v = record { ordered = v.ordered; intercepts = v.intercepts; counted = v.counted }

pub Orderly-from_valid : (s : State) → ValidState s → Orderly s
Orderly-from_valid s v = record { kinds = v.kinds; setting = v.setting; attributes = v.attributes; claims = AreClaimed-from_valid s v }

-- revoking keeps all of it
Orderly-revoke : (s : State) → Orderly s → Orderly (revoke s)
Orderly-revoke s o = record { kinds = kinds; setting = o.setting; attributes = o.attributes; claims = claims_more s (revoke s) refl refl (Keeps-itself s.services) o.claims }
  where
    kinds : (k : Kind) → ValidTable k (revoke s) (table k (revoke s))
    kinds kind.Circuit = valid-filter (o.kinds kind.Circuit) (revoke s) (λ q e. e) (granted_in s)
    kinds k = valid-more (o.kinds k) (revoke s) (λ q e. e)

-- repairing keeps all of it, and leaves a state that it changes no more
ValidState-repair : (s : State) → Orderly s → ValidState (repair s)
ValidState-repair s o = record {
  kinds = kinds;
  setting = o.setting;
  attributes = o.attributes;
  repaired = repair-repair s;
  ordered = claims.ordered;
  intercepts = claims.intercepts;
  counted = claims.counted;
}
  where
    claims : AreClaimed (repair s)
    claims = claims_more s (repair s) refl refl (Keeps-itself s.services) o.claims

    rerouted_table : ValidTable kind.Circuit s (reroute_circuits (settle_terminators (settle_links s))).circuits
    rerouted_table = valid-each (o.kinds kind.Circuit) s (rerouted (network_of (settle_terminators (settle_links s)))) (λ q. refl) (λ q e. refl)

    kinds : (k : Kind) → ValidTable k (repair s) (table k (repair s))
    kinds kind.Link = valid-filter (o.kinds kind.Link) (repair s) (λ q e. e) (link_stays s)
    kinds kind.Terminator = valid-filter (o.kinds kind.Terminator) (repair s) (λ q e. e) (terminator_stays (settle_links s))
    kinds kind.Circuit = valid-filter rerouted_table (repair s) (λ q e. e) (stays_in (settle_terminators (settle_links s)))
    kinds k = valid-more (o.kinds k) (repair s) (λ q e. e)

-- so does settling
pub ValidState-settle : (s : State) → Orderly s → ValidState (settle s)
ValidState-settle s o = ValidState-repair (revoke s) (Orderly-revoke s o)

-- ---- after a command there is the state before it, or an orderly one settled

abbrev pub Follows : State → State → Type 0
Follows s t = (t ≡ s) ⊎ ((effect : State) × Orderly effect × (t ≡ settle effect))

-- what holds of the state before and of each orderly one settled holds after
pub follows-holds : (P : State → Type 0) → ((effect : State) → Orderly effect → P (settle effect)) → (s t : State) → Follows s t → P s → P t
follows-holds P settled s t f p = ⊎_elim (λ same. subst P (sym same) p) (λ e. subst P (sym e.2) (settled e.0 e.1)) f

-- a command whose effect is orderly, if nothing refuses it
pub carried_out-follows : (o : Option Refusal) (s : State) (reply : Reply) (effect : State) → (o ≡ None → Orderly effect) → Follows s (carried_out o s reply effect).1
carried_out-follows o s reply effect h = carried_out-holds (Follows s) o s reply effect (inl refl) (λ none. inr (effect, h none, refl))

-- an effect at a number that is looked up, of which the limit on attributes was tested whole
pub at_number-orderly : (found : Option ℕ) (s : State) (effect : ℕ → State) → Orderly s
    → ((n : ℕ) → found ≡ Some n → attributes_full (effect n) ≡ false → Orderly (effect n)) → attributes_full (at_number found s effect) ≡ false
    → Orderly (at_number found s effect)
at_number-orderly found s effect o h = at_number-holds (λ t. attributes_full t ≡ false → Orderly t) found s effect (λ _. o) h

-- ---- a record is valid in each state in which the names of entities are found that were found before

abbrev FindsEntities : State → State → Type 0
FindsEntities s u = (i : Kind) → is_entity_kind i ≡ true → FindsToo (named i s) (named i u)

is_valid-more : (s u : State) → FindsEntities s u → (k : Kind) (q : Record k) → is_valid k s q ≡ true → is_valid k u q ≡ true
is_valid-more s u f kind.ServicePolicy q e =
    is_fitting-more (may_relate kind.ServicePolicy) (named kind.Identity s) (named kind.Service s) (named kind.Identity u) (named kind.Service u) (f kind.Identity refl) (f kind.Service refl) q e
is_valid-more s u f kind.EdgeRouterPolicy q e =
    is_fitting-more (may_relate kind.EdgeRouterPolicy) (named kind.Identity s) (named kind.Router s) (named kind.Identity u) (named kind.Router u) (f kind.Identity refl) (f kind.Router refl) q e
is_valid-more s u f kind.ServiceEdgeRouterPolicy q e =
    is_fitting-more (may_relate kind.ServiceEdgeRouterPolicy) (named kind.Service s) (named kind.Router s) (named kind.Service u) (named kind.Router u) (f kind.Service refl) (f kind.Router refl) q e
is_valid-more s u f k q e = e

-- the names that one table finds, and those of all others
finds_in : (s : State) (k : Kind) (t : Table (Record k)) → (is_entity_kind k ≡ true → FindsToo (named k s) (λ name. first_where (λ q. bytes_eq (record_name k q) name) t.rows))
    → FindsEntities s (with_table k t s)
finds_in s k t new =
    with_table-holds (λ i v. is_entity_kind i ≡ true → FindsToo (named i s) (λ name. first_where (λ q. bytes_eq (record_name i q) name) v.rows)) s k t
    (λ is name e. e) new (λ j is name e. e)

-- the services that one table keeps, and those of all others
pub keeps_services : (s : State) (k : Kind) (t : Table (Record k)) → (is_entity_kind k ≡ true → Keeps (table k s) t) → Keeps s.services (with_table k t s).services
keeps_services s k t new =
    with_table-holds (λ j v. is_entity_kind j ≡ true → Keeps (table j s) v) s k t (λ is. absurd (false≢true is)) new (λ j is. Keeps-itself (table j s)) kind.Service refl

-- a state with another table of one kind, where every record stays valid
changed : (s : State) (k : Kind) (t : Table (Record k)) → Orderly s → ((j : Kind) (q : Record j) → is_valid j s q ≡ true → is_valid j (with_table k t s) q ≡ true)
    → ValidTable k (with_table k t s) t → attributes_full (with_table k t s) ≡ false → (is_entity_kind k ≡ true → Keeps (table k s) t) → Orderly (with_table k t s)
changed s k t o more new few keeps = record {
  claims = claims_more s (with_table k t s) (with_table-intercepts k t s) (with_table-serial k t s) (keeps_services s k t keeps) o.claims;
  kinds = with_table-holds (λ j v. ValidTable j (with_table k t s) v) s k t (valid-none kind.Attribute (with_table k t s)) new (λ j. valid-more (o.kinds j) (with_table k t s) (more j));
  setting = ap is_link_cost (with_table-setting k t s) ∙ o.setting;
  attributes = few;
}

-- ---- adding a record, changing one

pub Orderly-create : (k : Kind) (r : Record k) (s : State) → Orderly s → (has_names k ≡ true → named k s (record_name k r) ≡ None)
    → (length (table k s).rows < limit k) × ((table k s).next < last_next) → is_valid k s r ≡ true → attributes_full (after_create k r s) ≡ false
    → Orderly (after_create k r s)
Orderly-create k r s o new room passes few =
    let v = o.kinds k in
    let more = is_valid-more s (after_create k r s)
    (finds_in s k (with_new r (table k s)) (λ is. with_last-finds (record_name k) (table k s).rows (table k s).next v.numbers.ordered v.numbers.first r)) in
    changed s k (with_new r (table k s)) o more (valid-new v (after_create k r s) (more k) r new room (more k r passes)) few (λ is. Keeps-new r (table k s))

pub Orderly-edit : (k : Kind) (n : ℕ) (f : Record k → Record k) (s : State) → Orderly s → ((q : Record k) → record_name k (f q) ≡ record_name k q)
    → ((q : Record k) → is_valid k s q ≡ true → is_valid k s (f q) ≡ true) → attributes_full (after_edit k n f s) ≡ false → Orderly (after_edit k n f s)
Orderly-edit k n f s o keeps passes few =
    let more = is_valid-more s (after_edit k n f s)
    (finds_in s k (with_edit n f (table k s)) (λ is. edit_at-finds (record_name k) (table k s).rows n f keeps)) in
    changed s k (with_edit n f (table k s)) o more (valid-edit (o.kinds k) (after_edit k n f s) (more k) n f keeps (λ q e. more k (f q) (passes q e))) few (λ is. Keeps-edit n f (table k s))

-- ---- attributes in use

abbrev attributes_of : (k : Kind) → Record k → List (List ℕ)
attributes_of kind.Identity e = e.attributes
attributes_of kind.Service e = e.attributes
attributes_of kind.Router r = r.attributes
attributes_of kind.ServicePolicy p = p.left.attributes ++ p.right.attributes
attributes_of kind.EdgeRouterPolicy p = p.left.attributes ++ p.right.attributes
attributes_of kind.ServiceEdgeRouterPolicy p = p.left.attributes ++ p.right.attributes
attributes_of k r = []

abbrev pub uses_in : (k : Kind) → Table (Record k) → List (List ℕ)
uses_in k t = flat_map (λ row. attributes_of k row.1) t.rows

-- where the attributes of each kind were all in use before, no more are in use
pub attributes_fewer : (s t : State) → ((k : Kind) → Includes (uses_in k (table k t)) (uses_in k (table k s))) → attributes_full s ≡ false → attributes_full t ≡ false
attributes_fewer s t each few =
    let all : Includes (attributes_in_use t) (attributes_in_use s) =
    Includes-append _ _ _ _ (each kind.Identity) (Includes-append _ _ _ _ (each kind.Service) (Includes-append _ _ _ _ (each kind.Router)
    (Includes-append _ _ _ _ (each kind.ServicePolicy) (Includes-append _ _ _ _ (each kind.EdgeRouterPolicy) (each kind.ServiceEdgeRouterPolicy))))) in
    let le = distinct_count-Includes (attributes_in_use t) (attributes_in_use s) all in
    let most = ltb-false (limit kind.Attribute) (distinct_count bytes_eq (attributes_in_use s)) few in
    false_from_ne_true (attributes_full t) (λ more. let lt = ltb-true (limit kind.Attribute) (distinct_count bytes_eq (attributes_in_use t)) more in absurd (omega arith))

pub with_table-uses : (s : State) (k : Kind) (t : Table (Record k)) → Includes (uses_in k t) (uses_in k (table k s))
    → (j : Kind) → Includes (uses_in j (table j (with_table k t s))) (uses_in j (table j s))
with_table-uses s k t new = with_table-holds (λ j v. Includes (uses_in j v) (uses_in j (table j s))) s k t (λ x m. m) new (λ j x m. m)

removed-uses : (k : Kind) (n : ℕ) (s : State) → (j : Kind) → Includes (uses_in j (table j (after_remove k n s))) (uses_in j (table j s))
removed-uses k n s = with_table-uses s k (with_removed n (table k s)) (Includes-filter (λ row. attributes_of k row.1) (λ x. not (x.0 == n)) (table k s).rows)

forgotten-uses : (k : Kind) (name : List ℕ) (s : State) → (j : Kind) → Includes (uses_in j (table j (forgotten k name s))) (uses_in j (table j s))
forgotten-uses kind.Identity name s kind.ServicePolicy = Includes-map side_attributes (λ x. (x.0, forget_left name x.1)) side_attributes (λ x. refl) s.service_policies.rows
forgotten-uses kind.Identity name s kind.EdgeRouterPolicy = Includes-map side_attributes (λ x. (x.0, forget_left name x.1)) side_attributes (λ x. refl) s.edge_router_policies.rows
forgotten-uses kind.Service name s kind.ServicePolicy = Includes-map side_attributes (λ x. (x.0, forget_right name x.1)) side_attributes (λ x. refl) s.service_policies.rows
forgotten-uses kind.Service name s kind.ServiceEdgeRouterPolicy = Includes-map side_attributes (λ x. (x.0, forget_left name x.1)) side_attributes (λ x. refl) s.service_edge_router_policies.rows
forgotten-uses kind.Router name s kind.EdgeRouterPolicy = Includes-map side_attributes (λ x. (x.0, forget_right name x.1)) side_attributes (λ x. refl) s.edge_router_policies.rows
forgotten-uses kind.Router name s kind.ServiceEdgeRouterPolicy = Includes-map side_attributes (λ x. (x.0, forget_right name x.1)) side_attributes (λ x. refl) s.service_edge_router_policies.rows
forgotten-uses k name s j = λ x m. m

-- ---- removing a record

-- one that no policy can name
pub Orderly-remove : (k : Kind) (n : ℕ) (s : State) → is_entity_kind k ≡ false → Orderly s → Orderly (after_remove k n s)
Orderly-remove k n s apart o =
    let more = is_valid-more s (after_remove k n s) (finds_in s k (with_removed n (table k s)) (λ is. absurd (false≢true (sym apart ∙ is)))) in
    changed s k (with_removed n (table k s)) o more (valid-filter (o.kinds k) (after_remove k n s) (more k) (λ x. not (x.0 == n)))
    (attributes_fewer s (after_remove k n s) (removed-uses k n s) o.attributes) (λ is. absurd (false≢true (sym apart ∙ is)))

-- an entity, whose name goes with it, and a service's intercept
abbrev without_record : Kind → ℕ → List ℕ → State → State
without_record k n name s = forgotten k name (without_intercept k n (after_remove k n s))

-- no attribute is in an intercept
unclaimed-uses : (k : Kind) (n : ℕ) (s : State) → (j : Kind) → Includes (uses_in j (table j (without_intercept k n s))) (uses_in j (table j s))
unclaimed-uses kind.Service n s kind.Link = λ x m. m
unclaimed-uses k n s j = λ x m. m

fewer_without : (k : Kind) (n : ℕ) (name : List ℕ) (s : State) → attributes_full s ≡ false → attributes_full (without_record k n name s) ≡ false
fewer_without k n name s =
    attributes_fewer s (without_record k n name s) (λ j x m.
    removed-uses k n s j x (unclaimed-uses k n (after_remove k n s) j x (forgotten-uses k name (without_intercept k n (after_remove k n s)) j x m)))

pub Orderly-delete : (k : Kind) (n : ℕ) (name : List ℕ) (s : State) → Orderly s → named k s name ≡ Some n → Orderly (without_record k n name s)
Orderly-delete kind.Identity n name s o is = record {
  kinds = kinds;
  setting = o.setting;
  attributes = fewer_without kind.Identity n name s o.attributes;
  claims = claims_more s (without_record kind.Identity n name s) refl refl (Keeps-itself s.services) o.claims;
}
  where
    others : FindsOthers name (named kind.Identity s) (named kind.Identity (without_record kind.Identity n name s))
    others = without-finds (record_name kind.Identity) s.identities.rows s.identities.next (o.kinds kind.Identity).numbers.ordered name n is

    kinds : (j : Kind) → ValidTable j (without_record kind.Identity n name s) (table j (without_record kind.Identity n name s))
    kinds kind.Identity = valid-filter (o.kinds kind.Identity) (without_record kind.Identity n name s) (λ q e. e) (λ x. not (x.0 == n))
    kinds kind.ServicePolicy = valid-each (o.kinds kind.ServicePolicy) (without_record kind.Identity n name s) (forget_left name) (λ q. refl)
        (is_fitting-forget_left (may_relate kind.ServicePolicy) name (named kind.Identity s) (named kind.Service s) (named kind.Identity (without_record kind.Identity n name s)) others)
    kinds kind.EdgeRouterPolicy = valid-each (o.kinds kind.EdgeRouterPolicy) (without_record kind.Identity n name s) (forget_left name) (λ q. refl)
        (is_fitting-forget_left (may_relate kind.EdgeRouterPolicy) name (named kind.Identity s) (named kind.Router s) (named kind.Identity (without_record kind.Identity n name s)) others)
    kinds j = valid-more (o.kinds j) (without_record kind.Identity n name s) (λ q e. e)
Orderly-delete kind.Service n name s o is = record {
  kinds = kinds;
  setting = o.setting;
  attributes = fewer_without kind.Service n name s o.attributes;
  claims = claims_without n s (without_record kind.Service n name s) refl refl refl o.claims;
}
  where
    others : FindsOthers name (named kind.Service s) (named kind.Service (without_record kind.Service n name s))
    others = without-finds (record_name kind.Service) s.services.rows s.services.next (o.kinds kind.Service).numbers.ordered name n is

    kinds : (j : Kind) → ValidTable j (without_record kind.Service n name s) (table j (without_record kind.Service n name s))
    kinds kind.Service = valid-filter (o.kinds kind.Service) (without_record kind.Service n name s) (λ q e. e) (λ x. not (x.0 == n))
    kinds kind.ServicePolicy = valid-each (o.kinds kind.ServicePolicy) (without_record kind.Service n name s) (forget_right name) (λ q. refl)
        (is_fitting-forget_right (may_relate kind.ServicePolicy) name (named kind.Identity s) (named kind.Service s) (named kind.Service (without_record kind.Service n name s)) others)
    kinds kind.ServiceEdgeRouterPolicy = valid-each (o.kinds kind.ServiceEdgeRouterPolicy) (without_record kind.Service n name s) (forget_left name) (λ q. refl)
        (is_fitting-forget_left (may_relate kind.ServiceEdgeRouterPolicy) name (named kind.Service s) (named kind.Router s) (named kind.Service (without_record kind.Service n name s)) others)
    kinds j = valid-more (o.kinds j) (without_record kind.Service n name s) (λ q e. e)
Orderly-delete kind.Router n name s o is = record {
  kinds = kinds;
  setting = o.setting;
  attributes = fewer_without kind.Router n name s o.attributes;
  claims = claims_more s (without_record kind.Router n name s) refl refl (Keeps-itself s.services) o.claims;
}
  where
    others : FindsOthers name (named kind.Router s) (named kind.Router (without_record kind.Router n name s))
    others = without-finds (record_name kind.Router) s.routers.rows s.routers.next (o.kinds kind.Router).numbers.ordered name n is

    kinds : (j : Kind) → ValidTable j (without_record kind.Router n name s) (table j (without_record kind.Router n name s))
    kinds kind.Router = valid-filter (o.kinds kind.Router) (without_record kind.Router n name s) (λ q e. e) (λ x. not (x.0 == n))
    kinds kind.EdgeRouterPolicy = valid-each (o.kinds kind.EdgeRouterPolicy) (without_record kind.Router n name s) (forget_right name) (λ q. refl)
        (is_fitting-forget_right (may_relate kind.EdgeRouterPolicy) name (named kind.Identity s) (named kind.Router s) (named kind.Router (without_record kind.Router n name s)) others)
    kinds kind.ServiceEdgeRouterPolicy = valid-each (o.kinds kind.ServiceEdgeRouterPolicy) (without_record kind.Router n name s) (forget_right name) (λ q. refl)
        (is_fitting-forget_right (may_relate kind.ServiceEdgeRouterPolicy) name (named kind.Service s) (named kind.Router s) (named kind.Router (without_record kind.Router n name s)) others)
    kinds j = valid-more (o.kinds j) (without_record kind.Router n name s) (λ q e. e)
Orderly-delete k n name s o is = Orderly-remove k n s refl o
